use Rattle.std.proofs.Common.{◌≡◌, ◌<◌, ◌≤◌, ℕ, get_or, length}
use Rattle.card_sets.specs.Cards.{with_card}
use Rattle.card_sets.specs.Games.{own_size}
use Rattle.draw_runouts.specs.Worth.{full_worth}
use Rattle.draw_runouts.proofs.numbers.fill_row.Given as goal

abbrev pub invariant-loop-number : goal.invariant-loop-number
invariant-loop-number l = (card : ℕ) → card < l.number → l.least ≤ card → length (with_card l.fn.own card) ≡ own_size l.game → get_or l.row card 0 ≡ full_worth l.side l.game (with_card l.fn.own card)
