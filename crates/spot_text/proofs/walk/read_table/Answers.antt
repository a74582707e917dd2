use Rattle.std.proofs.Common.{◌∙◌, ap, sym, refl}
use Rattle.spot_text.specs.Sections.{Hands, Dead, stands_from}
use Rattle.spot_text.specs.Fronts.{from_mark}
use Rattle.spot_text.specs.Parts.{cards_of, set_of}
use Rattle.spot_text.proofs.CardsByWord.{set_of-nil}
use Rattle.spot_text.proofs.FrontsByWord.{behind_end, behind_slash, behind_other, no_mark_left, has_table, not_formed, table_dashes}
use Rattle.spot_text.proofs.walk.read_table.Goals as goal

pub returns-in-End-clause-table : goal.returns-in-End-clause-table
returns-in-End-clause-table c ws mark rest =
    has_table _ _ _ _ _ (behind_end (from_mark ws) (sym mark ∙ c.in-End.is)) refl (c.empty.ensures ∙ sym set_of-nil) (c.empty-in-End.ensures ∙ sym set_of-nil)

pub returns-in_default-clause-table : goal.returns-in_default-clause-table
returns-in_default-clause-table c ws mark rest =
    behind_other ws (sym mark ∙ no_mark_left c.args.mark c.requires c.in_default.not-Dashes c.in_default.not-Slash c.in_default.not-End) Hands

pub returns-in-Some-clause-table : goal.returns-in-Some-clause-table
returns-in-Some-clause-table c ws mark rest =
    has_table _ _ _ _ _ (behind_slash (from_mark ws) (sym mark ∙ c.in-Slash.is)) (ap (stands_from Dead) (sym rest) ∙ c.in-Some.ensures.cards.0)
    (c.empty-in-Slash.ensures ∙ sym set_of-nil) (c.in-Some.ensures.cards.1 ∙ ap (λ dead. set_of (cards_of dead)) rest)

pub returns-in_default-read_dead-clause-table : goal.returns-in_default-read_dead-clause-table
returns-in_default-read_dead-clause-table c ws mark rest =
    not_formed ws _ _ _ _ (behind_slash (from_mark ws) (sym mark ∙ c.in-Slash.is)) (ap (stands_from Dead) (sym rest) ∙ c.in_default-read_dead.ensures.cards)

pub returns-in-Dashes-clause-table : goal.returns-in-Dashes-clause-table
returns-in-Dashes-clause-table c ws mark rest = table_dashes ws _ c.read_board.result (sym mark ∙ c.in-Dashes.is) rest c.read_board.ensures.cards
