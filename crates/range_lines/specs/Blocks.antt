-- The block of lines that a spot with ranges has in the report. Its hand lines are those of a spot.
use Rattle.std.specs.Prelude.{ℕ, ◌*◌, if◌then◌else◌, List, [], ◌∷◌, ◌++◌, length, codes, decimal, slice_index, slice_index_or, Result, Ok, Err}
use Rattle.std.specs.List.{flat_map}
use Rattle.card_sets.specs.CardText.{text_of_card}
use Rattle.card_sets.specs.Games.{game_word}
use Rattle.card_sets.specs.declared.games.Game.TheVariants.{Holdem}
use Rattle.card_sets.specs.declared.games.Side.{Side}
use Rattle.runout_ranges.specs.declared.limits.TheConstants.{RUNOUT_MAX}
use Rattle.report_sheet.specs.Lines.{Line, plain, line_in}
use Rattle.report_sheet.specs.SpotLines.{every_hand, hand_lines, refused_line, rejected_name, spot_name}
use Rattle.report_sheet.specs.declared.form.Form.{Form}
use Rattle.showdown_tally.specs.declared.cells.Cell.{Cell}
use Rattle.range_lines.specs.declared.faults.RangeFault.{RangeFault}
use Rattle.range_lines.specs.declared.faults.RangeFault.TheVariants.{UnknownWord, BadCard, BadRange, TwiceCard, BoardSize, PlayerCount, DeckShort, Memory}
use Rattle.range_lines.specs.declared.spot.RangeSpot.{RangeSpot}
use Rattle.range_lines.specs.declared.tally.RangeCell.{RangeCell}
use Rattle.range_lines.specs.declared.tally.RangeTally.{RangeTally}
use Rattle.range_lines.specs.Choices.{choices, full_weight, runouts_of_choice, are_above, has_no_choice}
use Rattle.range_lines.specs.Counted.{wins_of, ties_of, losses_of, units_of}
use Rattle.range_lines.specs.RangeSpot.{Ranges, ranges_in}

-- the name of a fault, and then what it carries
unfoldable pub fault_words : RangeFault → List (List ℕ)
fault_words UnknownWord = codes "UnknownWord" ∷ []
fault_words BadCard = codes "BadCard" ∷ []
fault_words BadRange = codes "BadRange" ∷ []
fault_words (TwiceCard card) = codes "TwiceCard" ∷ text_of_card card ∷ []
fault_words BoardSize = codes "BoardSize" ∷ []
fault_words PlayerCount = codes "PlayerCount" ∷ []
fault_words DeckShort = codes "DeckShort" ∷ []
fault_words Memory = codes "Memory" ∷ []

-- a spot that isn't counted, and why, as `spot 2 rejected line 3 TwiceCard As`; given are its place among the spots and the
-- number of its line
unfoldable pub rejected_line : ℕ → ℕ → List (List ℕ) → Line
rejected_line place number why = plain (rejected_name place number ++ why)

-- the first line of a spot that is counted, as `spot 1 holdem choices 2 runouts 44 weight 3`
unfoldable pub counted_line : ℕ → ℕ → ℕ → ℕ → Line
counted_line place count runouts weight =
    plain (spot_name place ++ game_word Holdem ∷ codes "choices" ∷ decimal count ∷ codes "runouts"
    ∷ decimal runouts ∷ codes "weight" ∷ decimal weight ∷ [])

-- how the runouts of all choices end for a player, each as often as its choice counts
abbrev pub cell_of : Ranges → ℕ → Side → Cell
cell_of spot hand side =
    record { win = wins_of spot hand; tie = ties_of spot hand; lose = losses_of spot hand }

-- a spot that is counted: its choices, the runouts of each and how often they count together, and then each player's lines.
-- All runouts are those of a choice as often as the choices count
unfoldable pub counted_block : Form → ℕ → Ranges → List ℕ
counted_block form place spot =
    let all = runouts_of_choice spot * full_weight spot.ranges in
    line_in form (counted_line place (length (choices spot.ranges)) (runouts_of_choice spot)
    (full_weight spot.ranges))
    ++ flat_map (hand_lines form Holdem all (cell_of spot) (units_of spot))
    (every_hand (length spot.ranges))

-- the block of a spot whose line is well written: it is refused where it has too many runouts, rejected where it has no
-- choice, or counted
unfoldable pub known_block : Form → ℕ → ℕ → Ranges → List ℕ
known_block form place number spot =
    if are_above RUNOUT_MAX spot then line_in form (refused_line place Holdem)
    else (if has_no_choice spot
    then line_in form (rejected_line place number (codes "NoChoice" ∷ []))
    else counted_block form place spot)

-- the block of a spot: it is rejected for its fault, or what is known of it says the rest
unfoldable pub ranges_block : Form → ℕ → ℕ → Result Ranges RangeFault → List ℕ
ranges_block form place number (Err fault) =
    line_in form (rejected_line place number (fault_words fault))
ranges_block form place number (Ok spot) = known_block form place number spot

-- a spot, seen as a plain record
abbrev pub seen_ranges : Result RangeSpot RangeFault → Result Ranges RangeFault
seen_ranges (Ok spot) = Ok (ranges_in spot)
seen_ranges (Err fault) = Err fault

-- the cell and the units that a tally has for a player
abbrev pub no_cell : RangeCell
no_cell = record { win = 0; tie = 0; lose = 0 }

abbrev pub tally_cell : RangeTally → ℕ → RangeCell
tally_cell tally hand = slice_index_or tally.cells hand no_cell

abbrev pub tally_ends : RangeTally → ℕ → Side → Cell
tally_ends tally hand side = record {
  win = (tally_cell tally hand).win;
  tie = (tally_cell tally hand).tie;
  lose = (tally_cell tally hand).lose;
}

abbrev pub tally_units : RangeTally → ℕ → ℕ
tally_units tally hand = slice_index tally.units hand

-- the block of a spot as a tally has it
unfoldable pub tally_block : Form → ℕ → ℕ → RangeTally → List ℕ
tally_block form place count tally =
    let all = tally.runouts * tally.weight in
    line_in form (counted_line place tally.choices tally.runouts tally.weight)
    ++ flat_map (hand_lines form Holdem all (tally_ends tally) (tally_units tally))
    (every_hand count)
