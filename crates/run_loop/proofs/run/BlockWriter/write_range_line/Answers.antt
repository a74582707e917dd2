use Rattle.std.proofs.Common.{◌++◌, ap, ◌∙◌}
use Rattle.range_lines.specs.Blocks.{ranges_block}
use Rattle.run_loop.proofs.RangeFacts.{count_if, line_rejected, line_sound}
use Rattle.run_loop.proofs.run.BlockWriter.write_range_line.Goals as goal

pub count_spot-tally-requires : goal.count_spot-tally-requires
count_spot-tally-requires g c = record { sound = line_sound c.args.line.now c.in_ok-spot.spot c.law_lines_give_sound_ranges.ensures c.in_ok-spot.ensures }

pub write_ranges-requires-clause-sound : goal.write_ranges-requires-clause-sound
write_ranges-requires-clause-sound g c = line_sound c.args.line.now c.in_ok-spot.spot c.law_lines_give_sound_ranges.ensures c.in_ok-spot.ensures

pub write_ranges-requires-clause-counted : goal.write_ranges-requires-clause-counted
write_ranges-requires-clause-counted g c = count_if c.in_ok-spot.spot c.count_spot-tally.result c.count_spot-tally.ensures

pub returns-clause-block : goal.returns-clause-block
returns-clause-block g c =
    c.in_ok-write_ranges.ensures.block
    ∙ ap (λ said. c.args.self.now.block.items ++ ranges_block c.args.unit.now.form c.args.unit.now.place c.args.unit.now.text.first said) c.in_ok-spot.ensures

pub returns-clause-rejected : goal.returns-clause-rejected
returns-clause-rejected g c =
    c.is_no_choice.ensures ∙ line_rejected c.args.line.now c.in_ok-spot.spot c.count_spot-tally.result c.count_spot-tally.ensures c.in_ok-spot.ensures
