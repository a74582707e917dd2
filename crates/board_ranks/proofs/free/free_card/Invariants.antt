use Rattle.std.proofs.Common.{◌≡◌, ◌<◌, ◌+◌, ◌*◌, ℕ, true}
use Rattle.card_sets.specs.Cards.{has_card}
use Rattle.board_ranks.proofs.free.free_card.Given as goal

abbrev pub invariant-loop-suit : goal.invariant-loop-suit
invariant-loop-suit l = (s : ℕ) → s < l.suit → has_card l.cards (4 * l.rank + s) ≡ true
