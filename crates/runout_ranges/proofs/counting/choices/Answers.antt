use Rattle.std.proofs.Common.{◌*◌, ◌<◌, ◌^◌, rules}
use Rattle.runout_ranges.proofs.ListingLength.{choice_fits, choice_more}
use Rattle.runout_ranges.proofs.counting.choices.Goals as goal

pub overflow_mul-choices : goal.overflow_mul-choices
overflow_mul-choices c =
    let fits : c.loop-i.choices * c.from.result < 2 ^ 64 = choice_fits c.args.n c.loop-i.i c.loop-i.choices c.from.result c.requires.deck c.loop-i.invariant c.from.ensures in
    search rules

pub loop-i-preserved : goal.loop-i-preserved
loop-i-preserved c = choice_more c.args.n c.loop-i.i c.loop-i.choices c.from.result c.from-in-loop-i.result c.loop-i.invariant c.from.ensures c.from-in-loop-i.ensures
