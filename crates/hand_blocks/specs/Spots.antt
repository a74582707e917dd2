-- The block of lines that a spot has in the report. The columns win, tie and lose and the expected value are those of
-- poker-eval; the words of the lines and the numbers of their decimal places are this project's.
use Rattle.std.specs.Prelude.{ℕ, nat_lt, if◌then◌else◌, List, [], ◌∷◌, ◌++◌, length, codes, decimal, Result, Ok, Err}
use Rattle.std.specs.List.{flat_map}
use Rattle.card_sets.specs.Games.{game_word}
use Rattle.card_sets.specs.State.{State, state_of}
use Rattle.card_sets.specs.declared.known_cards.Known.{Known}
use Rattle.card_sets.specs.declared.games.Game.{Game}
use Rattle.runout_ranges.specs.declared.limits.TheConstants.{RUNOUT_MAX}
use Rattle.showdown_tally.specs.Showdown.{Showdown}
use Rattle.showdown_tally.specs.Tallies.{cell_over, units_over, runouts_after}
use Rattle.spot_text.specs.declared.faults.SpotFault.{SpotFault}
use Rattle.report_sheet.specs.Lines.{Line, plain, line_in}
use Rattle.report_sheet.specs.SpotLines.{every_hand, hand_lines, refused_line, rejected_name, spot_name}
use Rattle.report_sheet.specs.declared.form.Form.{Form}
use Rattle.hand_blocks.specs.Words.{fault_words}

-- the deal of a spot: the state, and one pot in which every hand is eligible
abbrev pub alone : State → Showdown
alone state = record { state = state; pots = every_hand (length state.hands) ∷ [] }

-- the first line of a spot that is counted, as `spot 1 holdem runouts 44`
unfoldable pub counted_line : ℕ → Game → ℕ → Line
counted_line place game all =
    plain (spot_name place ++ game_word game ∷ codes "runouts" ∷ decimal all ∷ [])

-- a spot that is counted: how many runouts there are, and how all of them end for each hand
unfoldable pub counted_block : Form → ℕ → State → List ℕ
counted_block form place state =
    let runouts = runouts_after state in
    let all = length runouts in
    line_in form (counted_line place state.game all)
    ++ flat_map (hand_lines form state.game all (cell_over (alone state) runouts 0)
    (units_over (alone state) runouts 0))
    (every_hand (length state.hands))

-- a spot that isn't well written, and why, as `spot 2 rejected line 3 TwiceCard As`
unfoldable pub rejected_line : ℕ → ℕ → SpotFault → Line
rejected_line place number fault = plain (rejected_name place number ++ fault_words fault)

-- the known cards of a spot, seen as a plain record
abbrev pub seen_spot : Result Known SpotFault → Result State SpotFault
seen_spot (Ok known) = Ok (state_of known)
seen_spot (Err fault) = Err fault

-- the block of a spot: it is rejected for its fault, refused where it has too many runouts, or counted; given are its place
-- among the spots and the number of its line
unfoldable pub spot_block : Form → ℕ → ℕ → Result State SpotFault → List ℕ
spot_block form place number (Err fault) = line_in form (rejected_line place number fault)
spot_block form place number (Ok state) =
    if nat_lt RUNOUT_MAX (length (runouts_after state))
    then line_in form (refused_line place state.game)
    else counted_block form place state
