use Rattle.std.proofs.Common.{◌≡◌, ◌-◌, ◌≤◌, ◌++◌, length, take}
use Rattle.player_totals.specs.SumsSeen.{lines_of}
use Rattle.player_totals.proofs.total_lines.write_players.Given as goal

abbrev pub invariant-runs : goal.invariant-runs
invariant-runs g l = record {
  within : l.from ≤ length l.players;
  lines : l.out.items ≡ l.fn.out.items ++ lines_of g.S.Sums.line l.form (take l.from l.players);
}

abbrev pub decreases-runs : goal.decreases-runs
decreases-runs g l = length l.players - l.from
