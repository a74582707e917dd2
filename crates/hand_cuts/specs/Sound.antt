-- What clauses see of a cutter's fields, and what holds for them.
use Rattle.std.specs.Prelude.{◌≡◌, ◌+◌, ◌≤◌}
use Rattle.hand_cuts.specs.CutterState.{CutterState}
use Rattle.hand_cuts.specs.Scans.{IsScan, number_bound}
use Rattle.hand_cuts.specs.declared.cutter.Cutter.TheInside.{Inside}
use Rattle.hand_cuts.specs.declared.limits.TheConstants.{INPUT_MAX}
use Rattle.hand_cuts.specs.declared.units.CutKind.TheVariants.{Lines}

abbrev pub view_of : Inside → CutterState
view_of c = record { kind = c.kind; held = c.bytes.items; at = c.scan.at; line = c.scan.line; given = c.given; closed = c.closed }

-- the scan is that of the bytes that the cutter has; no line number is above that of the byte after all bytes given;
-- and if lines are cut, each line is handed out when it is examined
pub record IsSound (c : Inside) : Type 0 where
  pub few : c.given ≤ INPUT_MAX
  pub scan : IsScan c.bytes.items c.scan
  pub numbers : number_bound c.bytes.items c.scan ≤ c.given + 1
  pub lines : c.kind ≡ Lines → c.scan.looked ≡ c.scan.at
