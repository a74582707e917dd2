use Rattle.range_lines.specs.RangeSpot.{ranges_in}
use Rattle.range_lines.proofs.CallerLemmas.{equal_runouts}
use Rattle.hand_ranges.proofs.laws.law_choices_have_equal_runouts.Goals as goal

pub returns : goal.returns
returns c = λ choice m. equal_runouts (ranges_in c.args.spot.now) choice c.requires m
