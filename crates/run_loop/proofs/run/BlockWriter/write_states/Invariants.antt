use Rattle.std.proofs.Common.{◌≡◌, ◌++◌, take}
use Rattle.std.specs.List.{flat_map}
use Rattle.hand_blocks.specs.Streets.{street_block}
use Rattle.run_loop.proofs.run.BlockWriter.write_states.Given as goal

abbrev pub invariant-loop-state : goal.invariant-loop-state
invariant-loop-state g l = l.self.block.items ≡ l.fn.self.block.items ++ flat_map (street_block l.form l.audit) (take l.state-index l.states)
