use Rattle.std.proofs.Common.{◌≡◌}
use Rattle.std.specs.List.{flat_map}
use Rattle.card_sets.specs.PlayerSets.{AreBelow, players_in}
use Rattle.hand_blocks.specs.HandEquities.{player_lines}
use Rattle.even_luck.specs.Figures.{tally_figures}
use Rattle.report_sheet.specs.Sheets.{IsBetweenLines, with_lines}
use Rattle.showdown_tally.specs.Deals.{deal_of}
use Rattle.showdown_tally.specs.Showdown.{eligible_in}
use Rattle.hand_blocks.proofs.hand_equities.pot_equity.Given as goal

abbrev pub invariant-loop-hand : goal.invariant-loop-hand
invariant-loop-hand l = record {
  written : with_lines l.sheet (flat_map (player_lines l.fn.sheet.form l.game (tally_figures l.tally) l.shown.names.now l.shown.seats.now l.k) (players_in l.hand-iterator.rest))
      ≡ with_lines l.fn.sheet (flat_map (player_lines l.fn.sheet.form l.game (tally_figures l.tally) l.shown.names.now l.shown.seats.now l.k) (eligible_in (deal_of l.shown.table.now) l.k));
  form : l.sheet.form ≡ l.fn.sheet.form;
  between : IsBetweenLines l.sheet;
  below : AreBelow 10 (players_in l.hand-iterator.rest);
}
