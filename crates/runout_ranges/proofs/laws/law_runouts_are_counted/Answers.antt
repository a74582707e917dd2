use Rattle.runout_ranges.specs.Slots.{counts_of}
use Rattle.runout_ranges.specs.Shapes.{slots_of}
use Rattle.runout_ranges.proofs.ListingLength.{length_runouts}
use Rattle.runout_ranges.proofs.laws.law_runouts_are_counted.Goals as goal

pub returns : goal.returns
returns c = length_runouts (counts_of (slots_of c.args.shape.now)) c.args.shape.now.unseen c.rising.ensures.rising
