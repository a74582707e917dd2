use Rattle.std.proofs.Common.{arith}
use Rattle.draw_runouts.proofs.DrawPairs.{fit_of, next_of, pairs_end, pairs_none}
use Rattle.draw_runouts.proofs.pairs.add_pair.Goals as goal

pub loop-pot-init : goal.loop-pot-init
loop-pot-init c = record { stepped = pairs_none c.args.highs.now c.args.lows.now c.args.value c.args.low_value c.args.sums.now }

pub add_two-requires-clause-at_most : goal.add_two-requires-clause-at_most
add_two-requires-clause-at_most c = (fit_of _ _ _ _ _ _ _ _ _ _ _ _ _ _ _ _ c.from-at.ensures c.from-place.ensures c.loop-pot-test.true c.requires.highs c.requires.lows c.index-highs-at.is c.index-lows-at.is c.from-under.ensures c.from-over.ensures c.from-low_under.ensures c.from-low_over.ensures c.requires.room c.loop-pot.invariant.stepped).of_highs.at_most

pub add_two-requires-clause-at_least : goal.add_two-requires-clause-at_least
add_two-requires-clause-at_least c = (fit_of _ _ _ _ _ _ _ _ _ _ _ _ _ _ _ _ c.from-at.ensures c.from-place.ensures c.loop-pot-test.true c.requires.highs c.requires.lows c.index-highs-at.is c.index-lows-at.is c.from-under.ensures c.from-over.ensures c.from-low_under.ensures c.from-low_over.ensures c.requires.room c.loop-pot.invariant.stepped).of_highs.at_least

pub add_two-requires-in-loop-pot-clause-at_most : goal.add_two-requires-in-loop-pot-clause-at_most
add_two-requires-in-loop-pot-clause-at_most c = (fit_of _ _ _ _ _ _ _ _ _ _ _ _ _ _ _ _ c.from-at.ensures c.from-place.ensures c.loop-pot-test.true c.requires.highs c.requires.lows c.index-highs-at.is c.index-lows-at.is c.from-under.ensures c.from-over.ensures c.from-low_under.ensures c.from-low_over.ensures c.requires.room c.loop-pot.invariant.stepped).of_lows.at_most

pub add_two-requires-in-loop-pot-clause-at_least : goal.add_two-requires-in-loop-pot-clause-at_least
add_two-requires-in-loop-pot-clause-at_least c = (fit_of _ _ _ _ _ _ _ _ _ _ _ _ _ _ _ _ c.from-at.ensures c.from-place.ensures c.loop-pot-test.true c.requires.highs c.requires.lows c.index-highs-at.is c.index-lows-at.is c.from-under.ensures c.from-over.ensures c.from-low_under.ensures c.from-low_over.ensures c.requires.room c.loop-pot.invariant.stepped).of_lows.at_least

pub add_two-requires-in-loop-pot-2-clause-at_most : goal.add_two-requires-in-loop-pot-2-clause-at_most
add_two-requires-in-loop-pot-2-clause-at_most c = (fit_of _ _ _ _ _ _ _ _ _ _ _ _ _ _ _ _ c.from-at.ensures c.from-place.ensures c.loop-pot-test.true c.requires.highs c.requires.lows c.index-highs-at.is c.index-lows-at.is c.from-under.ensures c.from-over.ensures c.from-low_under.ensures c.from-low_over.ensures c.requires.room c.loop-pot.invariant.stepped).with_most.at_most

pub add_two-requires-in-loop-pot-2-clause-at_least : goal.add_two-requires-in-loop-pot-2-clause-at_least
add_two-requires-in-loop-pot-2-clause-at_least c = (fit_of _ _ _ _ _ _ _ _ _ _ _ _ _ _ _ _ c.from-at.ensures c.from-place.ensures c.loop-pot-test.true c.requires.highs c.requires.lows c.index-highs-at.is c.index-lows-at.is c.from-under.ensures c.from-over.ensures c.from-low_under.ensures c.from-low_over.ensures c.requires.room c.loop-pot.invariant.stepped).with_most.at_least

pub add_two-requires-in-loop-pot-3-clause-at_most : goal.add_two-requires-in-loop-pot-3-clause-at_most
add_two-requires-in-loop-pot-3-clause-at_most c = (fit_of _ _ _ _ _ _ _ _ _ _ _ _ _ _ _ _ c.from-at.ensures c.from-place.ensures c.loop-pot-test.true c.requires.highs c.requires.lows c.index-highs-at.is c.index-lows-at.is c.from-under.ensures c.from-over.ensures c.from-low_under.ensures c.from-low_over.ensures c.requires.room c.loop-pot.invariant.stepped).with_least.at_most

pub add_two-requires-in-loop-pot-3-clause-at_least : goal.add_two-requires-in-loop-pot-3-clause-at_least
add_two-requires-in-loop-pot-3-clause-at_least c = (fit_of _ _ _ _ _ _ _ _ _ _ _ _ _ _ _ _ c.from-at.ensures c.from-place.ensures c.loop-pot-test.true c.requires.highs c.requires.lows c.index-highs-at.is c.index-lows-at.is c.from-under.ensures c.from-over.ensures c.from-low_under.ensures c.from-low_over.ensures c.requires.room c.loop-pot.invariant.stepped).with_least.at_least

pub loop-pot-preserved : goal.loop-pot-preserved
loop-pot-preserved c = record {
  stepped = next_of _ _ _ _ _ _ _ _ _ _ _ _ _ _ _ _ _ c.from-at.ensures c.from-place.ensures c.loop-pot-test.true c.requires.highs c.requires.lows c.index-highs-at.is c.index-lows-at.is
      c.from-under.ensures c.from-over.ensures c.from-low_under.ensures c.from-low_over.ensures c.add_two.ensures c.add_two-in-loop-pot.ensures c.add_two-in-loop-pot-2.ensures c.add_two-in-loop-pot-3.ensures c.loop-pot.invariant.stepped;
}

pub returns : goal.returns
returns c = pairs_end c.args.highs.now c.args.lows.now c.args.value c.args.low_value c.loop-pot.pot c.args.pots c.args.sums.now c.loop-pot.sums (let t = c.loop-pot-test.false in omega arith) c.loop-pot.invariant.stepped
