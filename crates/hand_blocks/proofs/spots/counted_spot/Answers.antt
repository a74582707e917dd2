use Rattle.std.proofs.Common.{◌≡◌, ◌++◌, length, arith, ap, ◌∙◌}
use Rattle.std.specs.List.{flat_map}
use Rattle.card_sets.specs.State.{state_of}
use Rattle.report_sheet.specs.Lines.{line_in}
use Rattle.report_sheet.specs.Sheets.{with_lines}
use Rattle.hand_blocks.specs.Spots.{counted_line}
use Rattle.report_sheet.specs.SpotLines.{every_hand, hand_lines}
use Rattle.hand_blocks.proofs.SpotFacts.{block_of_counts}
use Rattle.even_luck.proofs.CallerLemmas.{some_runout}
use Rattle.hand_blocks.proofs.spots.counted_spot.Goals as goal
use Rattle.showdown_tally.specs.Cells.{cell_at, units_at}

pub hand_lines-requires-clause-some : goal.hand_lines-requires-clause-some
hand_lines-requires-clause-some c = rw c.requires.counted.runouts (some_runout (state_of c.args.known.now) c.requires.enough)

pub returns : goal.returns
returns c =
    let known = c.args.known.now in
    let tally = c.args.tally.now in
    let form = c.args.sheet.now.form in
    let text = hand_lines form known.game tally.runouts (cell_at tally 0) (units_at tally 0) in
    let line = line_in form (counted_line c.args.place known.game tally.runouts) in
    let ended : c.loop-hand.hand ≡ length (state_of known).hands = omega arith in
    let block = block_of_counts form c.args.place (state_of known) tally (omega arith) c.requires.counted in
    c.loop-hand.invariant
    ∙ ap (λ n. with_lines c.args.sheet.now (line ++ flat_map text (every_hand n))) ended
    ∙ ap (λ written. with_lines c.args.sheet.now written) block
