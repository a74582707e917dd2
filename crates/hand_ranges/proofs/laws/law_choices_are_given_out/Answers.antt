use Rattle.range_lines.specs.RangeSpot.{ranges_in}
use Rattle.hand_ranges.proofs.GivenOut.{ends_one_way, units_given}
use Rattle.hand_ranges.proofs.laws.law_choices_are_given_out.Goals as goal

pub returns-clause-ends : goal.returns-clause-ends
returns-clause-ends c = λ hand l. ends_one_way (ranges_in c.args.spot.now) hand c.requires c.law_each_runout_ends_one_way.ensures l

pub returns-clause-units : goal.returns-clause-units
returns-clause-units c = units_given (ranges_in c.args.spot.now) c.requires c.law_pots_are_given_out.ensures.high
