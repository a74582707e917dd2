-- What each player of a hand had, put in, got and netted, and what he would have netted with even luck.
use Rattle.std.specs.Prelude.{ℕ, Bool, List, [], ◌∷◌, ◌++◌, codes, Option, Some, None}
use Rattle.std.specs.List.{flat_map}
use Rattle.card_sets.specs.PlayerSets.{seats_in}
use Rattle.hand_verdict.specs.SeatSums.{chips_at, got_of}
use Rattle.hand_verdict.specs.declared.seat_chips.SeatChips.{SeatChips}
use Rattle.hand_verdict.specs.declared.settlement.Settlement.{Settlement}
use Rattle.hand_verdict.specs.declared.verdicts.AllIn.{AllIn}
use Rattle.hand_verdict.specs.declared.verdicts.HandAudit.{HandAudit}
use Rattle.hand_verdict.specs.declared.verdicts.HandAudit.TheVariants.{Rejected, Accepted}
use Rattle.even_luck.specs.Seats.{Seated}
use Rattle.hand_blocks.specs.Hands.{accepted_line, name_text, rejected_hand}
use Rattle.report_sheet.specs.Lines.{Line, named, line_in}
use Rattle.report_sheet.specs.Numbers.{difference, money}
use Rattle.report_sheet.specs.declared.form.Form.{Form}
-- what a player would have got with even luck
pub use Rattle.even_luck.specs.EvenLuck.{even_got, even_of, known_even, shared_pot, shared_pots}
pub use Rattle.even_luck.specs.Seats.{contenders}

-- what a player who put in so much would have netted, or that this isn't known
abbrev pub even_word : Bool → ℕ → Option ℕ → List ℕ
even_word hundredths put None = codes "unknown"
even_word hundredths put (Some got) = difference hundredths got put

-- the first words of the line of a player, as `result had 1500 put 1000`
unfoldable pub result_title : Bool → SeatChips → List (List ℕ)
result_title hundredths chips =
    codes "result" ∷ codes "had" ∷ money hundredths chips.had ∷ codes "put"
    ∷ money hundredths chips.put ∷ []

-- what he got and netted, as `got 2000 net 1000`
unfoldable pub net_words : Bool → ℕ → ℕ → List (List ℕ)
net_words hundredths put got =
    codes "got" ∷ money hundredths got ∷ codes "net" ∷ difference hundredths got put ∷ []

-- the line of a player, as `result had 1500 put 1000 got 2000 net 1000 even -250 carl`
unfoldable pub result_line : Bool → SeatChips → ℕ → Option ℕ → List ℕ → Line
result_line hundredths chips got even name =
    named (result_title hundredths chips ++ net_words hundredths chips.put got
    ++ codes "even" ∷ even_word hundredths chips.put even ∷ []) name

-- the line of the player of a seat
unfoldable pub player_result : Form → Settlement → AllIn → Seated → List SeatChips → ℕ → List ℕ
player_result form s all_in names chips seat =
    line_in form (result_line s.hundredths (chips_at chips seat) (got_of s seat)
    (even_of s all_in seat) (name_text names seat))

-- a hand in which no line departs: its first line, and a line for each player by rising seat
unfoldable pub accepted_results : Form → List ℕ → Settlement → AllIn → Seated → ℕ → List SeatChips → List ℕ
accepted_results form number s all_in names players chips =
    line_in form (accepted_line number s)
    ++ flat_map (player_result form s all_in names chips) (seats_in players)

-- the block of a hand with these chips: the line of its rejection, or the results of its players
abbrev pub results_block : Form → List ℕ → HandAudit → List SeatChips → List ℕ
results_block form number (Rejected line cause hundredths) chips =
    line_in form (rejected_hand number line hundredths cause)
results_block form number (Accepted s all_in names players) chips =
    accepted_results form number s all_in names players chips
