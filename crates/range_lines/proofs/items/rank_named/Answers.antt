use Rattle.std.proofs.Common.{sym, ap, ◌∙◌, Some}
use Rattle.std.specs.Option.{option_map}
use Rattle.card_sets.specs.Cards.{rank_of}
use Rattle.range_lines.proofs.RankLetters.{rank_of_letters}
use Rattle.range_lines.proofs.items.rank_named.Goals as goal

pub returns-in_err-card-clause-value : goal.returns-in_err-card-clause-value
returns-in_err-card-clause-value c = c.from_residual.ensures ∙ ap (option_map rank_of) (sym c.in_err-card.was ∙ c.read.ensures) ∙ rank_of_letters c.args.letter

pub returns-clause-value : goal.returns-clause-value
returns-clause-value c = ap Some c.rank.ensures.value ∙ ap (option_map rank_of) (sym c.in_ok-card.was ∙ c.read.ensures) ∙ rank_of_letters c.args.letter
