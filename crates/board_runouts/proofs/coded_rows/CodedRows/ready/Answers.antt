use Rattle.std.proofs.Common.{◌≡◌, ◌%◌, ℕ, List, sym, ap, ◌∙◌, subst}
use Rattle.std.proofs.lemmas.Option.{get_or_from_slice_get}
use Rattle.showdown_tally.specs.Deals.{deal_of}
use Rattle.showdown_tally.specs.Showdown.{Showdown}
use Rattle.board_runouts.specs.Codes.{AreCodes}
use Rattle.board_runouts.specs.Fields.{AreCodesAt}
use Rattle.board_runouts.specs.SideRows.{IsSideRow}
use Rattle.board_runouts.proofs.CodedPairs.{code_right}
use Rattle.board_runouts.proofs.RowSets.{all_set}
use Rattle.board_runouts.proofs.coded_rows.CodedRows.ready.Goals as goal

pub returns-clause-right : goal.returns-clause-right
returns-clause-right c =
    let deal : Showdown = deal_of c.args.start.now.spot.now.table in
    let e = c.fill.ensures in
    all_set (AreCodes deal) c.reach.new.self.list.items (c.args.base % 192) c.fill.new.self (c.reach.ensures.right deal c.requires.right) (λ is. code_right deal c.fill.new.self c.args.rows.now c.requires.pots (λ pot row at.
    let R : List ℕ → Type 0 = λ ranks. IsSideRow deal pot ranks c.args.start.now.least row.mains row.lows row.tops in
    let L : ℕ → Type 0 = λ least. IsSideRow deal pot c.fill.new.self.ranks least row.mains row.lows row.tops in
    subst L (sym e.least) (subst R (sym e.ranks) (c.requires.rows pot row at)))
    (let C : ℕ → Type 0 = λ least. AreCodesAt c.fill.new.self.adds c.fill.new.self.ends c.args.rows.now least in subst C (sym e.least) (e.codes is)))

pub returns-then-are_for-clause-ranks : goal.returns-then-are_for-clause-ranks
returns-then-are_for-clause-ranks c = λ codes at.
    let kept : c.index.result.now ≡ codes = c.index.ensures ∙ get_or_from_slice_get c.reach.new.self.list.items (c.args.base % 192) codes c.index.result.now at in
    ap (λ l. l.ranks) (sym kept) ∙ c.are_for.ensures.ranks c.if-are_for.true

pub returns-then-are_for-clause-least : goal.returns-then-are_for-clause-least
returns-then-are_for-clause-least c = λ codes at.
    let kept : c.index.result.now ≡ codes = c.index.ensures ∙ get_or_from_slice_get c.reach.new.self.list.items (c.args.base % 192) codes c.index.result.now at in
    ap (λ l. l.least) (sym kept) ∙ c.are_for.ensures.least c.if-are_for.true

pub returns-then-are_for-clause-right : goal.returns-then-are_for-clause-right
returns-then-are_for-clause-right c = c.reach.ensures.right (deal_of c.args.start.now.spot.now.table) c.requires.right
