use Rattle.std.proofs.Common.{◌≡◌, ◌+◌, ◌++◌, length, take}
use Rattle.runout_walk.proofs.card_list.put_cards.Given as goal

abbrev pub decreases-loop-card : goal.decreases-loop-card
decreases-loop-card l = length l.rest

abbrev pub invariant-loop-card : goal.invariant-loop-card
invariant-loop-card l = record {
  used : l.used + length l.rest ≡ length l.fn.set;
  places : length l.cards ≡ length l.fn.cards;
  cards : take l.used l.cards ++ l.rest ≡ l.fn.set;
}
