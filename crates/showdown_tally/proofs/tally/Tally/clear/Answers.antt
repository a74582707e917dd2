use Rattle.std.proofs.Common.{arith, ◌+◌, ◌*◌}
use Rattle.std.proofs.lemmas.List.{get_or-replicate}
use Rattle.showdown_tally.specs.Cells.{no_runout, side_place}
use Rattle.showdown_tally.proofs.CellPlaces.{place_bound}
use Rattle.showdown_tally.proofs.tally.Tally.clear.Goals as goal

pub returns-clause-cells : goal.returns-clause-cells
returns-clause-cells c pot hand side p h = rw c.no_cells-self-inside.ensures (get_or-replicate 200 (20 * pot + 2 * hand + side_place side) no_runout no_runout (place_bound pot hand side p h))

pub returns-clause-units : goal.returns-clause-units
returns-clause-units c pot hand p h = rw c.no_units-self-inside.ensures (get_or-replicate 100 (10 * pot + hand) 0 0 (omega arith))
