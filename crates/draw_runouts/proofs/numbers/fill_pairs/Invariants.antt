use Rattle.std.proofs.Common.{◌≡◌, ◌+◌, ◌<◌, ◌≤◌, ℕ, [], length}
use Rattle.std.specs.Prelude.{slice_index, slice_index_or}
use Rattle.card_sets.specs.Cards.{with_card}
use Rattle.card_sets.specs.Games.{own_size}
use Rattle.draw_runouts.specs.Worth.{full_worth}
use Rattle.draw_runouts.proofs.numbers.fill_pairs.Given as goal

abbrev pub invariant-loop-number : goal.invariant-loop-number
invariant-loop-number l = record {
  pairs : (low high : ℕ) → low < l.number → l.least ≤ low → low + 1 ≤ high → high < 52 → length (with_card (with_card l.own low) high) ≡ own_size l.game
      → slice_index (slice_index_or l.rows (l.base + low) []) high ≡ full_worth l.side l.game (with_card (with_card l.own low) high);
  before : (row : ℕ) → row < l.base + l.least → slice_index_or l.rows row [] ≡ slice_index_or l.fn.rows row [];
  places : length l.rows ≡ length l.fn.rows;
}
