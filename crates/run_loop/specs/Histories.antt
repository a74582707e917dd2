-- The block of a hand in the report.
use Rattle.std.specs.Prelude.{◌≡◌, ℕ, Bool, true, false, List, [], ◌∷◌, ◌++◌, Option, Some, None, option_map}
use Rattle.std.specs.List.{slice_range}
use Rattle.hand_cuts.specs.Units.{UnitLines}
use Rattle.history_text.specs.Headers.{hand_number}
use Rattle.hand_audit.specs.SeatChips.{chips_of}
use Rattle.hand_audit.specs.SplitHands.{parts_given, split_of}
use Rattle.hand_verdict.specs.declared.seat_chips.AuditedChips.{AuditedChips}
use Rattle.hand_audit.specs.Streets.{states_in}
use Rattle.hand_audit.specs.Verdict.{audit_of}
use Rattle.hand_verdict.specs.declared.verdicts.HandAudit.{HandAudit}
use Rattle.hand_verdict.specs.declared.verdicts.HandAudit.TheVariants.{Rejected, Accepted}
use Rattle.hand_blocks.specs.HandEquities.{hand_block as audit_block}
use Rattle.hand_blocks.specs.Results.{results_block}
use Rattle.hand_blocks.specs.Settles.{settle_block}
use Rattle.hand_blocks.specs.Streets.{street_blocks}
use Rattle.report_sheet.specs.declared.form.Form.{Form}
use Rattle.run_loop.specs.declared.block_kinds.Detail.{Detail}
use Rattle.run_loop.specs.declared.block_kinds.Detail.TheVariants.{Verdict, AllIn, LaterStreets, Results, Settlement}

-- the number of a hand, digit by digit as its header line has it
abbrev pub number_text : List (List ℕ) → List ℕ
number_text [] = []
number_text (line ∷ later) = slice_range line (hand_number line).0 (hand_number line).1

-- the verdict on a hand
unfoldable pub verdict_of : UnitLines → Option HandAudit
verdict_of hand = audit_of hand.first hand.lines

-- the same with the chips of its seats
abbrev pub with_chips : List (List ℕ) → HandAudit → AuditedChips
with_chips lines audit = record { audit = audit; chips = chips_of audit lines }

unfoldable pub chips_hand : UnitLines → Option AuditedChips
chips_hand hand = option_map (with_chips hand.lines) (verdict_of hand)

-- whether an equity may be counted for the block of a hand
abbrev pub counts_equity : Detail → Bool
counts_equity Verdict = false
counts_equity AllIn = true
counts_equity LaterStreets = true
counts_equity Results = true
counts_equity Settlement = false

-- what is told of a hand that has a verdict: the verdict alone; with the equity of its all-in; with that of each later street too;
-- what each player had, put in, got and netted; or what the rules give of its pots, and what each player is still to get or to give back
abbrev pub told_of : Form → Detail → UnitLines → HandAudit → List ℕ
told_of form Verdict hand audit = audit_block form false (number_text hand.lines) audit
told_of form AllIn hand audit = audit_block form true (number_text hand.lines) audit
told_of form LaterStreets hand audit =
    audit_block form true (number_text hand.lines) audit ++ street_blocks form audit (states_in hand.lines)
told_of form Results hand audit = results_block form (number_text hand.lines) audit (chips_of audit hand.lines)
told_of form Settlement hand audit =
    settle_block form (number_text hand.lines) audit (split_of audit hand.lines) (parts_given audit hand.lines)

-- the block of a hand, by its verdict
abbrev pub block_by : Form → Detail → UnitLines → Option HandAudit → List ℕ
block_by form told hand None = []
block_by form told hand (Some audit) = told_of form told hand audit

-- the block of a hand in a form; given is what is told of it
unfoldable pub hand_block : Form → Detail → UnitLines → List ℕ
hand_block form told hand = block_by form told hand (verdict_of hand)

-- the detail in which a verdict is told, with or without the equity of its all-in
abbrev pub verdict_told : Bool → Detail
verdict_told true = AllIn
verdict_told false = Verdict

-- whether a line of the hand departs from the rules
abbrev pub is_rejection : HandAudit → Bool
is_rejection (Rejected line cause hundredths) = true
is_rejection (Accepted settlement all_in names players) = false

abbrev pub is_rejected_by : Option HandAudit → Bool
is_rejected_by None = false
is_rejected_by (Some audit) = is_rejection audit

unfoldable pub is_rejected_hand : UnitLines → Bool
is_rejected_hand hand = is_rejected_by (verdict_of hand)

-- the block of a hand follows some bytes, and this is whether the hand is rejected
abbrev pub TellsHand : Form → Detail → UnitLines → List ℕ → List ℕ → Bool → Type 0
TellsHand form told hand old new rejected = (new ≡ old ++ hand_block form told hand) × (rejected ≡ is_rejected_hand hand)
