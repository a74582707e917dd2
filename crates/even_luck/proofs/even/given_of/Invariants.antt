use Rattle.std.proofs.Common.{◌≡◌, ◌≤◌, ◌*◌, ◌^◌}
use Rattle.runout_ranges.specs.declared.limits.TheConstants.{RUNOUT_MAX}
use Rattle.even_luck.specs.Figures.{given_to, tally_figures}
use Rattle.even_luck.specs.EvenLuck.{shared_pots}
use Rattle.even_luck.proofs.even.given_of.Given as goal

abbrev pub invariant-loop-k : goal.invariant-loop-k
invariant-loop-k l = record {
  few : l.given ≤ l.k * (10 * 2 ^ 64 * (5040 * RUNOUT_MAX));
  part : l.given ≤ l.k * (10 * 2 ^ 64 * (5040 * l.tally.runouts));
  so_far : l.given ≡ given_to (shared_pots l.seats l.pots) (tally_figures l.tally) l.hand l.k;
}
