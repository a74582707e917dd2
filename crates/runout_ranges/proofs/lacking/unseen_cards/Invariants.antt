use Rattle.std.proofs.Common.{◌≡◌, take, not, ◌&&◌}
use Rattle.std.specs.List.{list_any}
use Rattle.card_sets.specs.Cards.{cards_where, has_card}
use Rattle.runout_ranges.proofs.lacking.unseen_cards.Given as goal

abbrev pub invariant-loop-hand : goal.invariant-loop-hand
invariant-loop-hand l = l.unseen ≡ cards_where (λ c. not (has_card l.fn.known.board c) && not (has_card l.fn.known.dead c) && not (list_any (λ hand. has_card hand c) (take l.hand-index l.hand-items)))
