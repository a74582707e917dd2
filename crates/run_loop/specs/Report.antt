-- The report of a command on some bytes: a block for each spot or hand, or one block for all of them.
use Rattle.std.specs.Prelude.{ℕ, ◌+◌, ◌-◌, Bool, ◌&&◌, not, if◌then◌else◌, List, [], ◌∷◌, map, count_by}
use Rattle.std.specs.List.{concat, filter_map}
use Rattle.std.specs.Result.{is_err}
use Rattle.hand_verdict.specs.declared.seat_chips.AuditedChips.{AuditedChips}
use Rattle.hand_verdict.specs.declared.verdicts.HandAudit.{HandAudit}
use Rattle.hand_cuts.specs.Units.{hands_from}
use Rattle.range_lines.specs.Blocks.{ranges_block}
use Rattle.range_lines.specs.RangeSpot.{ranges_of}
use Rattle.line_text.specs.Lines.{lines}
use Rattle.made_hands.specs.Made.{made_text}
use Rattle.player_totals.specs.Balance.{balance_block}
use Rattle.player_totals.specs.Made.{made_block}
use Rattle.hand_blocks.specs.Spots.{spot_block}
use Rattle.player_totals.specs.Totals.{is_accepted, totals_block}
use Rattle.report_sheet.specs.declared.form.Form.{Form}
use Rattle.run_loop.specs.Histories.{chips_hand, hand_block, is_rejected_hand, verdict_of}
use Rattle.run_loop.specs.RangeLines.{is_rejected_range}
use Rattle.command_words.specs.declared.command.Command.{Command}
use Rattle.command_words.specs.declared.command.Mode.{Mode}
use Rattle.run_loop.specs.Plans.{plan_of}
use Rattle.run_loop.specs.declared.block_kinds.SpotKind.{SpotKind}
use Rattle.run_loop.specs.declared.block_kinds.SpotKind.TheVariants as held
use Rattle.run_loop.specs.declared.block_kinds.Detail.{Detail}
use Rattle.run_loop.specs.declared.block_kinds.BlockKind.{BlockKind}
use Rattle.run_loop.specs.declared.block_kinds.BlockKind.TheVariants.{Spots, Hands}
use Rattle.run_loop.specs.declared.plans.SumKind.{SumKind}
use Rattle.run_loop.specs.declared.plans.SumKind.TheVariants.{Totals, Balance}
use Rattle.run_loop.specs.declared.plans.Prints.TheVariants.{Blocks, Sums}
use Rattle.run_loop.specs.declared.plans.Plan.{Plan}
use Rattle.run_loop.specs.declared.plans.Plan.TheVariants.{Makes, Reads}
use Rattle.spot_text.specs.Spot.{spot_of}
use Rattle.spot_text.specs.Words.{is_blank}

-- the block of a line that has a word, by its place and its number; given is what its players have: cards, or ranges of hands
abbrev pub line_block : Form → SpotKind → ℕ → ℕ → List ℕ → List ℕ
line_block form held.Cards place number line = spot_block form place number (spot_of line)
line_block form held.Ranges place number line = ranges_block form place number (ranges_of line)

-- the blocks of some lines, the first of which has a number, and the first spot of which has a place; a line with no word
-- is passed over, and takes a number but no place
abbrev pub spots_from : Form → SpotKind → ℕ → ℕ → List (List ℕ) → List (List ℕ)
spots_from form has place number [] = []
spots_from form has place number (line ∷ later) =
    if is_blank line then spots_from form has place (number + 1) later
    else line_block form has place number line ∷ spots_from form has (place + 1) (number + 1) later

-- a line that isn't a spot
abbrev pub is_rejected_line : SpotKind → List ℕ → Bool
is_rejected_line held.Cards line = is_err (spot_of line)
is_rejected_line held.Ranges line = is_rejected_range (ranges_of line)

-- a line that has a word and isn't a spot
abbrev pub is_rejected_spot : SpotKind → List ℕ → Bool
is_rejected_spot has line = not (is_blank line) && is_rejected_line has line

-- the blocks of the hands of all lines; given is what is told of each. Numbers of lines begin at 1
abbrev pub hand_blocks : Form → Detail → List ℕ → List (List ℕ)
hand_blocks form told bytes = map (hand_block form told) (hands_from 1 (lines bytes))

-- how many hands are rejected
abbrev pub rejected_hands : List ℕ → ℕ
rejected_hands bytes = count_by is_rejected_hand (hands_from 1 (lines bytes))

-- the verdicts on the hands of all lines
abbrev pub verdicts : List ℕ → List HandAudit
verdicts bytes = filter_map verdict_of (hands_from 1 (lines bytes))

-- the same with the chips of their seats
abbrev pub chips_hands : List ℕ → List AuditedChips
chips_hands bytes = filter_map chips_hand (hands_from 1 (lines bytes))

-- the blocks of a kind: one for each spot, or one for each hand
abbrev pub blocks_of : BlockKind → Form → List ℕ → List (List ℕ)
blocks_of (Spots has) form bytes = spots_from form has 1 1 (lines bytes)
blocks_of (Hands told) form bytes = hand_blocks form told bytes

-- the one block of sums over all hands
abbrev pub sums_block : SumKind → Form → List ℕ → List ℕ
sums_block Totals form bytes = totals_block form (verdicts bytes)
sums_block Balance form bytes = balance_block form (chips_hands bytes)

-- the blocks of a plan; a plan that makes hands sums them up
abbrev pub blocks_by : Plan → Command → List ℕ → List (List ℕ)
blocks_by (Reads (Blocks listed)) asked bytes = blocks_of listed asked.form bytes
blocks_by (Reads (Sums kind)) asked bytes = sums_block kind asked.form bytes ∷ []
blocks_by Makes asked bytes = made_block asked.form asked.hands (verdicts (made_text asked.seed asked.hands)) ∷ []

-- the blocks of a command in a mode
abbrev pub blocks_in : Mode → Command → List ℕ → List (List ℕ)
blocks_in mode asked bytes = blocks_by (plan_of mode) asked bytes

abbrev pub blocks : Command → List ℕ → List (List ℕ)
blocks asked bytes = blocks_in asked.mode asked bytes

-- the report of the bytes
unfoldable pub report : Command → List ℕ → List ℕ
report asked bytes = concat (blocks asked bytes)

-- how many spots or hands are rejected of those that have a block each
abbrev pub rejected_of : BlockKind → List ℕ → ℕ
rejected_of (Spots has) bytes = count_by (is_rejected_spot has) (lines bytes)
rejected_of (Hands told) bytes = rejected_hands bytes

-- and of those that are summed up
abbrev pub rejected_in_sums : SumKind → List ℕ → ℕ
rejected_in_sums Totals bytes = count_by (λ hand. not (is_accepted hand)) (verdicts bytes)
rejected_in_sums Balance bytes = count_by (λ hand. not (is_accepted hand.audit)) (chips_hands bytes)

-- how many are rejected by a plan; of hands that are made, those that aren't accepted
abbrev pub rejects_by : Plan → Command → List ℕ → ℕ
rejects_by (Reads (Blocks listed)) asked bytes = rejected_of listed bytes
rejects_by (Reads (Sums kind)) asked bytes = rejected_in_sums kind bytes
rejects_by Makes asked bytes = asked.hands - count_by is_accepted (verdicts (made_text asked.seed asked.hands))

abbrev pub rejects_in : Mode → Command → List ℕ → ℕ
rejects_in mode asked bytes = rejects_by (plan_of mode) asked bytes

unfoldable pub rejects : Command → List ℕ → ℕ
rejects asked bytes = rejects_in asked.mode asked bytes
