use Rattle.std.proofs.Common.{◌≤◌, ◌^◌}
use Rattle.card_sets.specs.declared.games.Side.TheVariants.{High}
use Rattle.showdown_tally.specs.Cells.{cell_at, units_at}
use Rattle.range_lines.specs.Walks.{Column, GrowsBy, hands_add}
use Rattle.hand_ranges.proofs.sums.add_hands.Given as goal

abbrev pub invariant-loop-hand : goal.invariant-loop-hand
invariant-loop-hand l = record {
  grows : GrowsBy l.fn.total l.total (hands_add l.hand l.weight (λ h. cell_at l.tally 0 h High) (λ h. units_at l.tally 0 h));
  small : (column : Column) → hands_add l.hand l.weight (λ h. cell_at l.tally 0 h High) (λ h. units_at l.tally 0 h) column ≤ 2 ^ 96;
}
