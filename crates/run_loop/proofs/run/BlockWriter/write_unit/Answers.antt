use Rattle.std.proofs.Common.{ap}
use Rattle.run_loop.specs.UnitBlocks.{listed_kind}
use Rattle.run_loop.proofs.run.BlockWriter.write_unit.Goals as goal

pub write_hand_lines-requires-clause-header : goal.write_hand_lines-requires-clause-header
write_hand_lines-requires-clause-header g c =
    c.requires.header (ap listed_kind c.in-Hands.is)
