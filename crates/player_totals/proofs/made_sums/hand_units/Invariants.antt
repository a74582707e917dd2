use Rattle.std.proofs.Common.{◌≡◌, ◌≤◌, ◌*◌, ◌^◌}
use Rattle.even_luck.specs.Figures.{tally_figures}
use Rattle.player_totals.specs.Made.{hand_units}
use Rattle.player_totals.proofs.made_sums.hand_units.Given as goal

abbrev pub invariant-loop-k : goal.invariant-loop-k
invariant-loop-k l = record {
  few : l.units ≤ l.k * 2 ^ 64;
  so_far : l.units ≡ hand_units (tally_figures l.tally) l.k l.hand;
}
