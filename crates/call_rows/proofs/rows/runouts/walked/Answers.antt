use Rattle.runout_ranges.specs.Shapes.{runouts_of}
use Rattle.runout_ranges.specs.Walks.{HasMember-first, HasMember-next}
use Rattle.call_rows.proofs.rows.runouts.walked.Goals as goal

pub loop-count-init : goal.loop-count-init
loop-count-init c = HasMember-first (runouts_of c.args.shape.now) c.first_runout.new.out c.first_runout.ensures

pub loop-count-preserved : goal.loop-count-preserved
loop-count-preserved c = HasMember-next (runouts_of c.args.shape.now) c.loop-count.runout c.advance.new.r c.loop-count.invariant c.if-not-advance.ensures
