use Rattle.std.proofs.Common.{◌≡◌, ◌≤◌, ◌<◌, ◌+◌, ◌==◌, ℕ, length}
use Rattle.card_sets.specs.declared.games.Side.{Side}
use Rattle.showdown_tally.specs.Deals.{deal_of}
use Rattle.showdown_tally.specs.Showdown.{eligible_in}
use Rattle.showdown_tally.specs.SideCounts.{count_at}
use Rattle.runout_walk.specs.Bests.{best_set, some_set}
use Rattle.runout_walk.specs.OneMore.{set_place}
use Rattle.draw_runouts.specs.LastHand.{count_both, value_with}
use Rattle.draw_runouts.proofs.rivals.count_sides.Given as goal

abbrev pub invariant-loop-pot : goal.invariant-loop-pot
invariant-loop-pot g l = record {
  done : (pot place : ℕ) (side : Side) → pot < l.pot → count_at l.counts pot side place ≡ count_at l.fn.counts pot side place
      + count_both (λ value low. set_place side (best_set (value_with l.others.numbers l.others.last value) (eligible_in (deal_of l.table) pot)) (some_set (value_with l.others.lows l.others.last low) (eligible_in (deal_of l.table) pot)) == place) l.values l.low_values;
  later : (pot place : ℕ) (side : Side) → l.pot ≤ pot → count_at l.counts pot side place ≡ count_at l.fn.counts pot side place;
  same : length l.counts ≡ length l.fn.counts;
}
