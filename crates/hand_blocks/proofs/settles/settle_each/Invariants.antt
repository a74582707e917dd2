use Rattle.std.proofs.Common.{◌≡◌, ◌-◌}
use Rattle.std.specs.List.{flat_map}
use Rattle.card_sets.specs.PlayerSets.{players_from, seats_in}
use Rattle.hand_blocks.specs.Settles.{settle_lines_of}
use Rattle.report_sheet.specs.Sheets.{IsBetweenLines, with_lines}
use Rattle.hand_blocks.proofs.settles.settle_each.Given as goal

abbrev pub invariant-loop-seat : goal.invariant-loop-seat
invariant-loop-seat l = record {
  written : with_lines l.sheet (flat_map (settle_lines_of l.fn.sheet.form l.settlement l.names) (players_from l.players l.seat (11 - l.seat)))
      ≡ with_lines l.fn.sheet (flat_map (settle_lines_of l.fn.sheet.form l.settlement l.names) (seats_in l.players));
  form : l.sheet.form ≡ l.fn.sheet.form;
  between : IsBetweenLines l.sheet;
}
