-- The block of lines that a hand has in the report: its verdict, its pots, and who got what of them.
use Rattle.std.specs.Prelude.{ℕ, ◌+◌, ◌==◌, ◌&&◌, not, Bool, false, if◌then◌else◌, List, [], ◌∷◌, ◌++◌, codes, decimal, unwrap_or}
use Rattle.std.specs.List.{flat_map}
use Rattle.card_sets.specs.Games.{game_word}
use Rattle.hand_events.specs.Names.{name_of}
use Rattle.hand_verdict.specs.declared.verdicts.HandAudit.{HandAudit}
use Rattle.hand_verdict.specs.declared.verdicts.HandAudit.TheVariants.{Rejected, Accepted}
use Rattle.hand_verdict.specs.declared.cause.Cause.{Cause}
use Rattle.hand_verdict.specs.declared.settlement.Payment.{Payment}
use Rattle.hand_verdict.specs.declared.settlement.PotLine.{PotLine}
use Rattle.hand_verdict.specs.declared.settlement.Settlement.{Settlement}
use Rattle.hand_blocks.specs.Causes.{cause_words}
use Rattle.report_sheet.specs.Lines.{Line, plain, named, line_in}
use Rattle.report_sheet.specs.Numbers.{money}
use Rattle.report_sheet.specs.declared.form.Form.{Form}
-- the names of a hand's seats
pub use Rattle.even_luck.specs.Seats.{Seated}

-- the name of a seat, byte for byte; a seat without one has no bytes
abbrev pub name_text : Seated → ℕ → List ℕ
name_text names seat = unwrap_or (name_of seat names) []

-- the first words of a line of a hand, with its number as the header has it
unfoldable pub hand_title : List ℕ → List (List ℕ)
hand_title number = codes "hand" ∷ number ∷ []

-- the first words of the line of a hand with a line that departs, as `hand 88 rejected line 10`
unfoldable pub rejected_title : List ℕ → ℕ → List (List ℕ)
rejected_title number line =
    hand_title number ++ codes "rejected" ∷ codes "line" ∷ decimal line ∷ []

-- a hand with a line that departs, as `hand 88 rejected line 10 CallAmount 50`
unfoldable pub rejected_hand : List ℕ → ℕ → Bool → Cause → Line
rejected_hand number line hundredths cause =
    plain (rejected_title number line ++ cause_words hundredths cause)

-- that a hand was run twice
abbrev pub twice_words : Bool → List (List ℕ)
twice_words twice = if twice then codes "twice" ∷ [] else []

-- the first line of a hand in which no line departs, as `hand 88 accepted holdem rake 0` or, where it was run twice,
-- `hand 88 accepted holdem rake 0 twice`
unfoldable pub accepted_line : List ℕ → Settlement → Line
accepted_line number s =
    plain (hand_title number ++ codes "accepted" ∷ game_word s.game ∷ codes "rake"
    ∷ money s.hundredths s.rake ∷ []
    ++ twice_words s.twice)

-- the first words of the line of a pot, with what it holds; pots are numbered from 0
unfoldable pub pot_title : Bool → ℕ → ℕ → List (List ℕ)
pot_title hundredths k gross = codes "pot" ∷ decimal k ∷ codes "gross" ∷ money hundredths gross ∷ []

-- whether it is known who wins a pot
abbrev pub seen_word : Bool → List ℕ
seen_word checked = if checked then codes "checked" else codes "unseen"

-- what stands after that: the rake, and whether it is known who wins the pot, as `rake 0 checked`; or that the names of
-- the collections don't fit the pots
unfoldable pub pot_state : Bool → Bool → ℕ → Bool → List (List ℕ)
pot_state hundredths fits rake checked =
    if fits then codes "rake" ∷ money hundredths rake ∷ seen_word checked ∷ []
    else codes "unfit" ∷ []

-- the line of a pot, as `pot 0 gross 1500 rake 0 checked` or `pot 0 gross 1500 unfit`
unfoldable pub pot_line : Bool → Bool → ℕ → PotLine → Line
pot_line hundredths fits k pot =
    plain (pot_title hundredths k pot.gross ++ pot_state hundredths fits pot.rake pot.checked)

-- what a payment should have been, where it is known who wins the pot and the payment isn't that
unfoldable pub due_words : Bool → Bool → Payment → List (List ℕ)
due_words hundredths checked pay =
    if checked && not (pay.got == pay.due) then codes "due" ∷ money hundredths pay.due ∷ [] else []

-- who got what of a pot, as `paid 33 p2` or `paid 33 due 34 p1`
unfoldable pub paid_line : Bool → Seated → Bool → Payment → Line
paid_line hundredths names checked pay =
    named (codes "paid" ∷ money hundredths pay.got ∷ []
    ++ due_words hundredths checked pay) (name_text names pay.seat)

-- some payments, in their order
abbrev pub paid_lines : Form → Bool → Seated → Bool → List Payment → List ℕ
paid_lines form hundredths names checked payments =
    flat_map (λ pay. line_in form (paid_line hundredths names checked pay)) payments

-- a pot, and the payments out of it
unfoldable pub pot_lines : Form → Bool → Bool → Seated → ℕ → PotLine → List ℕ
pot_lines form hundredths fits names k pot =
    line_in form (pot_line hundredths fits k pot)
    ++ paid_lines form hundredths names pot.checked pot.paid

-- some pots, the first of which has a number
abbrev pub pots_from : Form → Bool → Bool → Seated → ℕ → List PotLine → List ℕ
pots_from form hundredths fits names k [] = []
pots_from form hundredths fits names k (pot ∷ more) =
    pot_lines form hundredths fits names k pot ++ pots_from form hundredths fits names (k + 1) more

-- a hand in which no line departs: each pot with its payments, and then the payments of the hand, which there are where
-- the names of the collections don't fit the pots
unfoldable pub accepted_hand : Form → List ℕ → Settlement → Seated → List ℕ
accepted_hand form number s names =
    line_in form (accepted_line number s) ++ pots_from form s.hundredths s.fits names 0 s.pots
    ++ paid_lines form s.hundredths names false s.paid

-- the verdict on a hand
abbrev pub verdict_block : Form → List ℕ → HandAudit → List ℕ
verdict_block form number (Rejected line cause hundredths) =
    line_in form (rejected_hand number line hundredths cause)
verdict_block form number (Accepted settlement all_in names players) =
    accepted_hand form number settlement names
