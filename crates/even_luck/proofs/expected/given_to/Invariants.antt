use Rattle.std.proofs.Common.{◌≡◌, ◌≤◌, ◌*◌, ◌^◌}
use Rattle.runout_ranges.specs.declared.limits.TheConstants.{RUNOUT_MAX}
use Rattle.even_luck.specs.Figures.{given_to, tally_figures}
use Rattle.even_luck.proofs.expected.given_to.Given as goal

abbrev pub invariant-loop-k : goal.invariant-loop-k
invariant-loop-k l = record {
  few : l.given ≤ l.k * (2 ^ 64 * (5040 * RUNOUT_MAX));
  so_far : l.given ≡ given_to l.pots (tally_figures l.tally) l.hand l.k;
}
