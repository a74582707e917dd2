-- What the rules give of the pots of a hand, and what each player is still to get, or to give back.
use Rattle.std.specs.Prelude.{ℕ, ◌+◌, ◌==◌, Bool, if◌then◌else◌, List, [], ◌∷◌, ◌++◌, slice_index_or, codes, decimal, Option, Some, None}
use Rattle.std.specs.List.{flat_map, list_all}
use Rattle.card_sets.specs.PlayerSets.{seats_in}
use Rattle.hand_verdict.specs.SeatSums.{due_of, got_of}
use Rattle.hand_verdict.specs.declared.parts.PartShare.{PartShare}
use Rattle.hand_verdict.specs.declared.parts.SplitHand.{SplitHand}
use Rattle.hand_verdict.specs.declared.settlement.Payment.{Payment}
use Rattle.hand_verdict.specs.declared.settlement.PotLine.{PotLine}
use Rattle.hand_verdict.specs.declared.settlement.Settlement.{Settlement}
use Rattle.hand_verdict.specs.declared.verdicts.HandAudit.{HandAudit}
use Rattle.hand_verdict.specs.declared.verdicts.HandAudit.TheVariants.{Rejected, Accepted}
use Rattle.even_luck.specs.Seats.{Seated}
use Rattle.hand_blocks.specs.Hands.{accepted_hand, accepted_line, name_text, paid_line, pot_line, rejected_hand}
use Rattle.report_sheet.specs.Lines.{Line, named, line_in}
use Rattle.report_sheet.specs.Numbers.{difference, money}
use Rattle.report_sheet.specs.SpotLines.{side_word}
use Rattle.report_sheet.specs.declared.form.Form.{Form}

-- the first words of the line of a share, as `part 0 1 high`: the pot's number, the board's, and the side
unfoldable pub part_title : ℕ → PartShare → List (List ℕ)
part_title k share =
    codes "part" ∷ decimal k ∷ decimal share.board ∷ side_word share.side ∷ []

-- how many odd units are in a share
abbrev pub odd_word : Bool → List ℕ
odd_word odd = if odd then codes "1" else codes "0"

-- what the winner gets, as `units 5001 odd 1`
unfoldable pub units_words : Bool → PartShare → List (List ℕ)
units_words hundredths share =
    codes "units" ∷ money hundredths share.units ∷ codes "odd" ∷ odd_word share.odd ∷ []

-- the line of a share, as `part 0 1 high units 50.01 odd 1 carl`
unfoldable pub part_line : Bool → Seated → ℕ → PartShare → Line
part_line hundredths names k share =
    named (part_title k share ++ units_words hundredths share) (name_text names share.seat)

-- what a player is due of a pot and what he got, as `share 0 due 50.01 got 50 carl`
unfoldable pub share_line : Bool → Seated → ℕ → Payment → Line
share_line hundredths names k pay =
    named (codes "share" ∷ decimal k ∷ codes "due" ∷ money hundredths pay.due ∷ codes "got"
    ∷ money hundredths pay.got ∷ []) (name_text names pay.seat)

-- of a pot of which it isn't known who wins it only what he got, as `paid 50 carl`
unfoldable pub given_line : Bool → Seated → ℕ → Bool → Payment → Line
given_line hundredths names k checked pay =
    if checked then share_line hundredths names k pay else paid_line hundredths names checked pay

-- the lines of some shares, and of some payments, in their order
abbrev pub part_lines : Form → Bool → Seated → ℕ → List PartShare → List ℕ
part_lines form hundredths names k shares =
    flat_map (λ share. line_in form (part_line hundredths names k share)) shares

abbrev pub given_lines : Form → Bool → Seated → ℕ → Bool → List Payment → List ℕ
given_lines form hundredths names k checked payments =
    flat_map (λ pay. line_in form (given_line hundredths names k checked pay)) payments

-- a pot, the shares of its parts, and what each player is due and got of it
unfoldable pub settled_pot : Form → Bool → Bool → Seated → List PartShare → ℕ → PotLine → List ℕ
settled_pot form hundredths fits names shares k pot =
    line_in form (pot_line hundredths fits k pot) ++ part_lines form hundredths names k shares
    ++ given_lines form hundredths names k pot.checked pot.paid

-- the shares of the parts of a pot, of those of all pots
abbrev pub shares_at : List (List PartShare) → ℕ → List PartShare
shares_at parts k = slice_index_or parts k []

-- some pots, the first of which has a number
abbrev pub settled_pots_from : Form → Bool → Bool → Seated → List (List PartShare) → ℕ → List PotLine → List ℕ
settled_pots_from form hundredths fits names parts k [] = []
settled_pots_from form hundredths fits names parts k (pot ∷ more) =
    settled_pot form hundredths fits names (shares_at parts k) k pot
    ++ settled_pots_from form hundredths fits names parts (k + 1) more

-- what a player is still to get, or to give back, as `settle -3200 uma`
unfoldable pub settle_line : Bool → Seated → ℕ → ℕ → ℕ → Line
settle_line hundredths names due got seat =
    named (codes "settle" ∷ difference hundredths due got ∷ []) (name_text names seat)

-- the same of the player of a seat, where what he is due of all pots isn't what he got
unfoldable pub settle_lines_of : Form → Settlement → Seated → ℕ → List ℕ
settle_lines_of form s names seat =
    if due_of s seat == got_of s seat then []
    else line_in form (settle_line s.hundredths names (due_of s seat) (got_of s seat) seat)

-- it is known who wins each pot
abbrev pub are_checked : List PotLine → Bool
are_checked pots = list_all (λ pot. pot.checked) pots

-- those of all players, by rising seat, where it is known who wins each pot
unfoldable pub settle_lines : Form → Settlement → Seated → ℕ → List ℕ
settle_lines form s names players =
    if are_checked s.pots then flat_map (settle_lines_of form s names) (seats_in players) else []

-- the lines of a hand that can be settled, after its first
unfoldable pub settled_lines : Form → Settlement → Seated → ℕ → List (List PartShare) → List ℕ
settled_lines form s names players parts =
    settled_pots_from form s.hundredths s.fits names parts 0 s.pots
    ++ settle_lines form s names players

-- a hand in which no line departs: its settlement, or, where the names of the collections don't fit the pots, who got what
unfoldable pub accepted_settlement : Form → List ℕ → Settlement → Seated → ℕ → List (List PartShare) → List ℕ
accepted_settlement form number s names players parts =
    if s.fits
    then line_in form (accepted_line number s) ++ settled_lines form s names players parts
    else accepted_hand form number s names

-- that of a hand that is rejected for its payments alone; nothing of another
abbrev pub split_lines : Form → Option SplitHand → List (List PartShare) → List ℕ
split_lines form None parts = []
split_lines form (Some hand) parts =
    settled_lines form hand.settlement hand.names hand.players parts

-- the block of a hand: the line of its rejection, with its settlement where it is rejected for its payments alone; or its
-- settlement
abbrev pub settle_block : Form → List ℕ → HandAudit → Option SplitHand → List (List PartShare) → List ℕ
settle_block form number (Rejected line cause hundredths) split parts =
    line_in form (rejected_hand number line hundredths cause) ++ split_lines form split parts
settle_block form number (Accepted s all_in names players) split parts =
    accepted_settlement form number s names players parts
