use Rattle.std.proofs.Common.{◌+◌, ap, arith}
use Rattle.std.proofs.Math.ListN.{length-set}
use Rattle.board_runouts.specs.KeptRows.{IsNamed}
use Rattle.board_runouts.proofs.RowSets.{away_set, group_set}
use Rattle.board_runouts.proofs.fill.name_rows.Goals as goal

pub loop-pot-preserved : goal.loop-pot-preserved
loop-pot-preserved c =
    let was = c.loop-pot.invariant in
    let e = c.name.ensures in
    record {
      places = rw length-set was.places;
      names = group_set (λ pot row. IsNamed row pot c.args.ranks c.args.least) c.loop-pot.rows c.args.base c.loop-pot.pot _ c.name.new.self (ap (λ n. c.args.base + n) c.from.ensures) was.names (record { pot_is = e.pot; ranks_are = e.ranks; least_is = e.least });
      away = away_set c.loop-pot.rows c.args.rows.now c.args.base c.loop-pot.pot _ c.name.new.self (ap (λ n. c.args.base + n) c.from.ensures) was.away;
    }

pub returns-clause-away : goal.returns-clause-away
returns-clause-away c = λ i away. c.loop-pot.invariant.away i (λ p l e. away p (let end = c.loop-pot.auto.pot-end in omega arith) e)
