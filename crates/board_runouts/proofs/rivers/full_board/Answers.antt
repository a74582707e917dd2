use Rattle.std.proofs.Common.{[], List, ℕ, ap, ◌∙◌, arith}
use Rattle.card_sets.specs.Cards.{union, with_card}
use Rattle.card_sets.specs.Rising.{with_card-push}
use Rattle.board_runouts.proofs.rivers.full_board.Goals as goal

pub returns : goal.returns
returns c = c.union.ensures ∙ ap (union c.args.spot.now.table.known.board) (c.with.ensures ∙ ap (λ (l : List ℕ). with_card l c.args.card) c.empty.ensures ∙ with_card-push [] c.args.card (omega arith, c.requires, tt))
