use Rattle.std.proofs.Common.{◌≡◌, ◌-◌}
use Rattle.std.specs.List.{flat_map}
use Rattle.card_sets.specs.PlayerSets.{players_from, seats_in}
use Rattle.hand_blocks.specs.Results.{player_result}
use Rattle.report_sheet.specs.Sheets.{IsBetweenLines, with_lines}
use Rattle.hand_blocks.proofs.results.player_results.Given as goal

abbrev pub invariant-loop-seat : goal.invariant-loop-seat
invariant-loop-seat l = record {
  written : with_lines l.sheet (flat_map (player_result l.fn.sheet.form l.played.settlement.now l.played.all_in.all_in.now l.played.names.now l.played.chips.now) (players_from l.players l.seat (11 - l.seat)))
      ≡ with_lines l.fn.sheet (flat_map (player_result l.fn.sheet.form l.played.settlement.now l.played.all_in.all_in.now l.played.names.now l.played.chips.now) (seats_in l.players));
  form : l.sheet.form ≡ l.fn.sheet.form;
  between : IsBetweenLines l.sheet;
}
