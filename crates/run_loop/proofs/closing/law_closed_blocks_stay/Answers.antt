use Rattle.run_loop.proofs.RunFacts.{closed_stays}
use Rattle.run_loop.proofs.closing.law_closed_blocks_stay.Goals as goal

pub returns : goal.returns
returns c = closed_stays
