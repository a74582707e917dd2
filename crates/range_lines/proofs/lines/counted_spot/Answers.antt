use Rattle.std.proofs.Common.{◌≡◌, ◌+◌, ◌*◌, ◌++◌, ap, ◌∙◌, arith}
use Rattle.std.specs.List.{flat_map}
use Rattle.card_sets.specs.declared.games.Game.TheVariants.{Holdem}
use Rattle.report_sheet.specs.Lines.{line_in}
use Rattle.report_sheet.specs.Sheets.{with_lines}
use Rattle.report_sheet.specs.SpotLines.{every_hand, hand_lines}
use Rattle.range_lines.specs.Blocks.{counted_line, tally_block, tally_ends, tally_units}
use Rattle.range_lines.proofs.BlockFacts.{small_less}
use Rattle.range_lines.proofs.lines.counted_spot.Goals as goal

pub hand_lines-requires-clause-small : goal.hand_lines-requires-clause-small
hand_lines-requires-clause-small c = small_less c.args.tally.now c.args.players (c.loop-hand.hand + 1) (omega (arith, c.loop-hand-test.true)) c.requires.small

pub returns : goal.returns
unfolding tally_block
returns c =
    let tally = c.args.tally.now in
    let form = c.args.sheet.now.form in
    let text = hand_lines form Holdem (tally.runouts * tally.weight) (tally_ends tally) (tally_units tally) in
    let line = line_in form (counted_line c.args.place tally.choices tally.runouts tally.weight) in
    let ended : c.loop-hand.hand ≡ c.args.players = omega arith in
    c.loop-hand.invariant ∙ ap (λ n. with_lines c.args.sheet.now (line ++ flat_map text (every_hand n))) ended
