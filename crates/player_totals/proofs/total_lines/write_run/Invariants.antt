use Rattle.std.proofs.Common.{◌≡◌, ◌++◌, take}
use Rattle.report_sheet.specs.Sheets.{nothing_in, with_lines}
use Rattle.player_totals.specs.SumsSeen.{lines_of}
use Rattle.player_totals.proofs.total_lines.write_run.Given as goal

abbrev pub invariant-loop-place : goal.invariant-loop-place
invariant-loop-place g l = record {
  whole : l.sheet ≡ with_lines (nothing_in l.fn.form) l.sheet.bytes;
  lines : lines_of g.S.Sums.line l.fn.form (take l.from l.players) ++ l.sheet.bytes ≡ lines_of g.S.Sums.line l.fn.form (take l.place l.players);
}
