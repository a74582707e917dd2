use Rattle.std.proofs.Common.{◌≡◌, ◌≤◌, ◌<◌, ◌+◌, ◌*◌, ◌==◌, ℕ, [], length}
use Rattle.std.specs.Prelude.{slice_index, slice_index_or}
use Rattle.std.specs.List.{count_by}
use Rattle.showdown_tally.specs.Deals.{deal_of}
use Rattle.showdown_tally.specs.Showdown.{eligible_in}
use Rattle.runout_walk.specs.Bests.{best_set}
use Rattle.draw_runouts.specs.LastHand.{value_with}
use Rattle.draw_runouts.proofs.rivals.count_pots.Given as goal

abbrev pub invariant-loop-pot : goal.invariant-loop-pot
invariant-loop-pot g l = record {
  done : (pot set : ℕ) → pot < l.pot → set < 2048 → slice_index (slice_index_or l.counts (2 * pot + l.row) []) set ≡ slice_index (slice_index_or l.fn.counts (2 * pot + l.row) []) set
      + count_by (λ value. best_set (value_with l.others.numbers l.others.last value) (eligible_in (deal_of l.table) pot) == set) l.values;
  later : (pot set : ℕ) → l.pot ≤ pot → slice_index (slice_index_or l.counts (2 * pot + l.row) []) set ≡ slice_index (slice_index_or l.fn.counts (2 * pot + l.row) []) set;
  places : length l.counts ≡ length l.fn.counts;
}
