-- What is known of a line with ranges by what is read and counted of it.
use Rattle.std.proofs.Common.{◌≡◌, ℕ, false, ◌&&◌, not, List, Result, Ok, Err, sym, ap, ◌∙◌}
use Rattle.std.specs.Prelude.{IfOk}
use mathlib.Core.Bool.{true≢false}
use Rattle.range_lines.specs.Blocks.{seen_ranges}
use Rattle.range_lines.specs.Choices.{has_no_choice}
use Rattle.range_lines.specs.Counted.{IsCountOf}
use Rattle.range_lines.specs.Sound.{IsSound}
use Rattle.range_lines.specs.RangeSpot.{IsFaultOf, Ranges, ranges_in, ranges_of}
use Rattle.range_lines.specs.declared.faults.RangeFault.{RangeFault}
use Rattle.range_lines.specs.declared.faults.RangeFault.TheVariants.{UnknownWord, BadCard, BadRange, TwiceCard, BoardSize, PlayerCount, DeckShort, Memory}
use Rattle.range_lines.specs.declared.spot.RangeSpot.{RangeSpot}
use Rattle.range_lines.specs.declared.tally.RangeJobFault.{RangeJobFault}
use Rattle.range_lines.specs.declared.tally.RangeJobFault.TheVariants.{AboveLimit, NoChoice}
use Rattle.range_lines.specs.declared.tally.RangeTally.{RangeTally}
use Rattle.run_loop.specs.RangeLines.{IsCountFor, is_memory, is_no_choice, is_rejected_range}

-- a fault is what the line says, unless memory ran out
pub fault_said : (line : List ℕ) (fault : RangeFault) → IsFaultOf line fault → is_memory fault ≡ false → Err fault ≡ ranges_of line
fault_said line UnknownWord is some = sym is
fault_said line BadCard is some = sym is
fault_said line BadRange is some = sym is
fault_said line (TwiceCard card) is some = sym is
fault_said line BoardSize is some = sym is
fault_said line PlayerCount is some = sym is
fault_said line DeckShort is some = sym is
fault_said line Memory is some = absurd (true≢false some)

-- what a line gives is sound
pub line_sound : (line : List ℕ) (spot : Result RangeSpot RangeFault) → ((l : List ℕ) (s : Ranges) → ranges_of l ≡ Ok s → IsSound s) → seen_ranges spot ≡ ranges_of line → IfOk spot (λ s. IsSound (ranges_in s))
line_sound line (Ok spot) law said = law line (ranges_in spot) (sym said)
line_sound line (Err fault) law said = tt

-- the count of a spot
pub count_if : (spot : Result RangeSpot RangeFault) (count : Result RangeTally RangeJobFault) → IsCountFor spot count → IfOk spot (λ s. IsCountOf (ranges_in s) count)
count_if (Ok spot) count is = is
count_if (Err fault) count is = tt

-- a count says that there is no choice exactly where a spot is rejected for it
spot_rejected : (spot : Ranges) (count : Result RangeTally RangeJobFault) → IsCountOf spot count → is_no_choice count ≡ is_rejected_range (Ok spot)
spot_rejected spot (Err AboveLimit) is = sym (ap (λ above. not above && has_no_choice spot) is)
spot_rejected spot (Err NoChoice) is = sym (ap (λ above. not above && has_no_choice spot) is.0 ∙ is.1)
spot_rejected spot (Ok tally) is = sym (ap (λ above. not above && has_no_choice spot) is.0 ∙ is.1)

-- and so a line
pub line_rejected : (line : List ℕ) (spot : Result RangeSpot RangeFault) (count : Result RangeTally RangeJobFault) → IsCountFor spot count → seen_ranges spot ≡ ranges_of line → is_no_choice count ≡ is_rejected_range (ranges_of line)
line_rejected line (Ok spot) count is said = spot_rejected (ranges_in spot) count is ∙ ap is_rejected_range said
line_rejected line (Err fault) count is said = ap is_no_choice is ∙ ap is_rejected_range said
