use Rattle.runout_ranges.specs.Slots.{counts_of}
use Rattle.runout_ranges.specs.Shapes.{slots_of}
use Rattle.runout_ranges.proofs.Membership.{runouts_once}
use Rattle.runout_ranges.proofs.laws.law_no_runout_twice.Goals as goal

pub returns : goal.returns
returns c = runouts_once (counts_of (slots_of c.args.shape.now)) c.args.shape.now.unseen c.rising.ensures.rising
