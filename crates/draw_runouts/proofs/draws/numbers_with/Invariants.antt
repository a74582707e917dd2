use Rattle.std.proofs.Common.{◌≡◌, ◌≤◌, ◌<◌, ℕ, [], drop, length}
use Rattle.std.specs.Prelude.{slice_index, slice_index_or}
use Rattle.card_sets.specs.Cards.{IsCardSet, union}
use Rattle.card_sets.specs.Games.{own_size}
use Rattle.runout_ranges.specs.Slots.{dealt, hand_slots}
use Rattle.runout_ranges.specs.declared.shapes.Receiver.TheVariants.{Hand}
use Rattle.draw_runouts.specs.Worth.{full_worth}
use Rattle.draw_runouts.proofs.draws.numbers_with.Given as goal

abbrev pub invariant-loop-hand : goal.invariant-loop-hand
invariant-loop-hand l = record {
  size : length l.numbers ≡ 10;
  numbers : (h : ℕ) → h < l.hand → length (union (slice_index_or l.hands h []) (dealt (hand_slots (own_size l.known.game) 0 l.hands) l.sets (Hand h))) ≡ own_size l.known.game
      → slice_index l.numbers h ≡ full_worth l.side l.known.game (union (slice_index_or l.hands h []) (dealt (hand_slots (own_size l.known.game) 0 l.hands) l.sets (Hand h)));
  later : (h : ℕ) → l.hand ≤ h → dealt (hand_slots (own_size l.known.game) 0 l.hands) l.sets (Hand h) ≡ dealt (hand_slots (own_size l.known.game) l.hand (drop l.hand l.hands)) (drop l.place l.sets) (Hand h);
  cards : (h : ℕ) → h < l.hand → IsCardSet (slice_index_or l.hands h []);
  few : l.place ≤ l.hand;
}
