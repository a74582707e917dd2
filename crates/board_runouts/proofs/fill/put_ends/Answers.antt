use Rattle.std.proofs.Common.{◌+◌, ◌<◌, ◌∙◌, ℕ, List, ap, arith, length, refl}
use Rattle.std.proofs.Math.ListN.{length-set}
use Rattle.std.proofs.lemmas.Option.{slice_get-get_or}
use Rattle.card_sets.specs.State.{state_of}
use Rattle.showdown_tally.specs.Deals.{deal_of}
use Rattle.board_runouts.specs.KeptRows.{AreWorthsAfter, IsBestAt}
use Rattle.board_runouts.proofs.RowSets.{away_set, but_none, but_set, group_set}
use Rattle.board_runouts.proofs.fill.put_ends.Goals as goal

pub loop-pot-init : goal.loop-pot-init
loop-pot-init c = record {
  places = refl;
  here = λ pot row l at runout worths. absurd (omega arith);
  others = λ i row at. (row, at, but_none row c.args.place);
  away = λ i away. refl;
}

pub loop-pot-preserved : goal.loop-pot-preserved
loop-pot-preserved c =
    let was = c.loop-pot.invariant in
    let e = c.put.ensures in
    let inside : c.args.base + c.from.result < length c.loop-pot.rows = (let r = c.requires.room in let t = c.loop-pot-test.true in let f = c.from.ensures in let p = was.places in omega arith) in
    record {
      places = rw length-set was.places;
      here = group_set (λ pot row. (runout : List (List ℕ)) → AreWorthsAfter (state_of c.args.table.now.known) runout c.args.worths.now → IsBestAt (deal_of c.args.table.now) pot runout row c.args.place)
          c.loop-pot.rows c.args.base c.loop-pot.pot _ c.put.new.self (ap (λ n. c.args.base + n) c.from.ensures) was.here
          (λ runout worths. let best = c.pot_ends-ends.ensures.best runout worths in record { low_set = e.low ∙ best.low_set; main_set = e.main ∙ best.main_set; best = e.top ∙ best.best });
      others = but_set c.loop-pot.rows c.args.rows.now c.args.place _ _ c.put.new.self (slice_get-get_or c.loop-pot.rows (c.args.base + c.from.result) _ inside)
          (record { pot_is = e.pot; ranks_are = e.ranks; least_is = e.least; mains_are = e.mains; lows_are = e.lows; tops_are = e.tops }) was.others;
      away = away_set c.loop-pot.rows c.args.rows.now c.args.base c.loop-pot.pot _ c.put.new.self (ap (λ n. c.args.base + n) c.from.ensures) was.away;
    }

pub returns-clause-here : goal.returns-clause-here
returns-clause-here c = λ pot row runout lt at worths. c.loop-pot.invariant.here pot row (let e = c.loop-pot-test.false in omega arith) at runout worths

pub returns-clause-away : goal.returns-clause-away
returns-clause-away c = λ i away. c.loop-pot.invariant.away i (λ p l e. away p (let end = c.loop-pot.auto.pot-end in omega arith) e)
