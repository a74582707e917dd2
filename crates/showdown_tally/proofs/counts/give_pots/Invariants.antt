use Rattle.std.proofs.Common.{◌≡◌, ℕ, ◌<◌}
use Rattle.card_sets.specs.declared.games.Side.{Side}
use Rattle.showdown_tally.specs.Cells.{cell_at, units_at}
use Rattle.showdown_tally.specs.CountShares.{pots_given, pots_given_units}
use Rattle.showdown_tally.proofs.counts.give_pots.Given as goal

abbrev pub invariant-loop-pot : goal.invariant-loop-pot
invariant-loop-pot l = record {
  runouts : l.tally.runouts ≡ 0;
  cells : (p h : ℕ) (s : Side) → p < 10 → h < 10 → cell_at l.tally p h s ≡ pots_given l.table.known.game l.table.eligible l.counts l.table.known.count l.pot p h s;
  units : (p h : ℕ) → p < 10 → h < 10 → units_at l.tally p h ≡ pots_given_units l.table.known.game l.table.eligible l.counts l.table.known.count l.pot p h;
}
