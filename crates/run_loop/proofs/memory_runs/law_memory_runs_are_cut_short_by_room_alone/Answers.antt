use Rattle.run_loop.proofs.MemoryFacts.{memory_runs}
use Rattle.run_loop.proofs.memory_runs.law_memory_runs_are_cut_short_by_room_alone.Goals as goal

pub returns : goal.returns
returns c = memory_runs
