-- Which lines with ranges are rejected.
use Rattle.std.specs.Prelude.{◌≡◌, Bool, true, false, ◌&&◌, not, Result, Ok, Err}
use Rattle.runout_ranges.specs.declared.limits.TheConstants.{RUNOUT_MAX}
use Rattle.range_lines.specs.Choices.{are_above, has_no_choice}
use Rattle.range_lines.specs.Counted.{IsCountOf}
use Rattle.range_lines.specs.RangeSpot.{Ranges, ranges_in}
use Rattle.range_lines.specs.declared.faults.RangeFault.{RangeFault}
use Rattle.range_lines.specs.declared.faults.RangeFault.TheVariants.{Memory}
use Rattle.range_lines.specs.declared.spot.RangeSpot.{RangeSpot}
use Rattle.range_lines.specs.declared.tally.RangeJobFault.{RangeJobFault}
use Rattle.range_lines.specs.declared.tally.RangeJobFault.TheVariants.{AboveLimit, NoChoice}
use Rattle.range_lines.specs.declared.tally.RangeTally.{RangeTally}

-- a line is rejected for its fault, or where it has no choice; where it has too many runouts it is refused, and not rejected
abbrev pub is_rejected_range : Result Ranges RangeFault → Bool
is_rejected_range (Err fault) = true
is_rejected_range (Ok spot) = not (are_above RUNOUT_MAX spot) && has_no_choice spot

-- whether a count says that there is no choice
abbrev pub is_no_choice : Result RangeTally RangeJobFault → Bool
is_no_choice (Ok tally) = false
is_no_choice (Err AboveLimit) = false
is_no_choice (Err NoChoice) = true

-- whether a fault is that memory ran out
abbrev pub is_memory : RangeFault → Bool
is_memory Memory = true
is_memory _ = false

-- the count of a spot; of a line that is none, that there is no choice
abbrev pub IsCountFor : Result RangeSpot RangeFault → Result RangeTally RangeJobFault → Type 0
IsCountFor (Ok spot) count = IsCountOf (ranges_in spot) count
IsCountFor (Err fault) count = count ≡ Err NoChoice
