use Rattle.std.proofs.Common.{◌<◌, length, arith}
use Rattle.std.proofs.Math.ListN.{length-set}
use Rattle.card_sets.specs.State.{state_of}
use Rattle.showdown_tally.specs.Deals.{deal_of}
use Rattle.board_runouts.specs.Highs.{plain_of}
use Rattle.board_runouts.proofs.RiverFacts.{few_set, won_set}
use Rattle.board_runouts.proofs.rivers.Won.by.Goals as goal

pub loop-pot-preserved : goal.loop-pot-preserved
loop-pot-preserved c =
    let was = c.loop-pot.invariant in
    let inside : c.loop-pot.pot < length c.loop-pot.highs = (let t = c.loop-pot-test.true in let s = was.highs_size in omega arith) in
    let inside_too : c.loop-pot.pot < length c.loop-pot.lows = (let t = c.loop-pot-test.true in let s = was.lows_size in omega arith) in
    record {
      highs_size = rw length-set was.highs_size;
      lows_size = rw length-set was.lows_size;
      few_highs = λ p. few_set c.loop-pot.highs c.from.result c.pot_best-high.result.set 1024 p was.few_highs c.pot_best-high.ensures.small (omega (arith, inside, c.from.ensures));
      few_lows = λ p. few_set c.loop-pot.lows c.from-in-loop-pot.result c.winners_on-low.result 1024 p was.few_lows c.winners_on-low.ensures.small (omega (arith, inside_too, c.from-in-loop-pot.ensures));
      won = λ p runout lt worths.
          won_set (deal_of c.args.table.now) runout c.loop-pot.highs c.loop-pot.lows c.loop-pot.pot c.from.result c.from-in-loop-pot.result c.pot_best-high.result.set c.winners_on-low.result p c.from.ensures c.from-in-loop-pot.ensures inside inside_too
          (λ less. was.won p runout less worths)
          (record {
            high_set = (c.pot_best-high.ensures.best (plain_of (state_of c.args.table.now.known) runout) worths.as_highs).1;
            low_set = c.winners_on-low.ensures.value runout (λ has. worths.as_lows);
          }) lt;
    }
