use Rattle.runout_ranges.specs.Slots.{counts_of}
use Rattle.runout_ranges.specs.Shapes.{slots_of}
use Rattle.runout_ranges.proofs.Membership.{runout_fills, filled_runout}
use Rattle.runout_ranges.proofs.laws.law_runouts_fill_the_slots.Goals as goal

pub returns : goal.returns
returns c sets =
    let shape = c.args.shape.now in
    (λ m. runout_fills (counts_of (slots_of shape)) shape.unseen sets c.rising.ensures.rising m, λ f. filled_runout (counts_of (slots_of shape)) shape.unseen sets c.rising.ensures.rising f)
