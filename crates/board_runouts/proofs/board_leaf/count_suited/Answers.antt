use Rattle.std.proofs.Common.{sym, ◌∙◌, arith}
use Rattle.card_sets.specs.declared.games.Side.TheVariants.{High, Low}
use Rattle.board_runouts.specs.Fronts.{front_deal}
use Rattle.board_runouts.proofs.FrontFacts.{row_at, suited_for}
use Rattle.board_runouts.proofs.PairCounts.{adds_pot, board_high, count_pot, room_for}
use Rattle.board_runouts.proofs.board_leaf.count_suited.Goals as goal

pub loop-pot-preserved : goal.loop-pot-preserved
loop-pot-preserved c =
    let was = c.loop-pot.invariant in
    let place = c.suited_place-place in
    record {
      counted = count_pot (front_deal c.args.front.now) c.args.front.now.taken c.args.pair.now c.loop-pot.pot _ place.result.main place.result.low c.args.counts.now c.loop-pot.counts c.add_place.new.counts (omega arith) place.ensures.main place.ensures.low
          (adds_pot (front_deal c.args.front.now) 1 c.loop-pot.pot place.result.main place.result.low c.loop-pot.counts c.add_place.new.counts c.add_place.ensures.high (λ p k has. c.add_place.ensures.low p k (c.has_side-two_sides.ensures ∙ has)))
          was.counted;
      same = c.add_place.ensures.places ∙ was.same;
    }

pub returns-clause-counts : goal.returns-clause-counts
returns-clause-counts c = record {
  counted = λ pot place side p has l. c.loop-pot.invariant.counted.done pot place side (let n = c.args.front.now.spot.now.pots in let e = c.loop-pot-test.false in omega arith) has;
  rows = c.loop-pot.invariant.same;
}

pub add_place-requires-clause-inside : goal.add_place-requires-clause-inside
add_place-requires-clause-inside c =
    let r = c.requires.room.rows in
    let s = c.loop-pot.invariant.same in
    let t = c.loop-pot-test.true in
    omega arith

pub add_place-requires-clause-fits_main : goal.add_place-requires-clause-fits_main
add_place-requires-clause-fits_main c =
    let n = c.args.front.now.spot.now.pots in
    let t = c.loop-pot-test.true in
    room_for (front_deal c.args.front.now) c.args.front.now.taken c.args.pair.now c.loop-pot.pot c.suited_place-place.result.main High c.args.counts.now c.loop-pot.counts c.requires.room.fits (omega arith) (board_high c.args.front.now.spot.now.table.known.game c.args.front.now.spot.now.dealt) c.suited_place-place.ensures.few_mains c.loop-pot.invariant.counted

pub add_place-requires-clause-fits_low : goal.add_place-requires-clause-fits_low
add_place-requires-clause-fits_low c = λ two.
    let n = c.args.front.now.spot.now.pots in
    let t = c.loop-pot-test.true in
    room_for (front_deal c.args.front.now) c.args.front.now.taken c.args.pair.now c.loop-pot.pot c.suited_place-place.result.low Low c.args.counts.now c.loop-pot.counts c.requires.room.fits (omega arith) (sym c.has_side-two_sides.ensures ∙ two) (let f = c.suited_place-place.ensures.few_lows in omega arith) c.loop-pot.invariant.counted

pub ready-at-requires-clause-suited : goal.ready-at-requires-clause-suited
ready-at-requires-clause-suited c = suited_for c.args.front.now c.args.pair.now c.args.part.now c.requires.member c.requires.part

pub suited_place-place-requires-clause-flush : goal.suited_place-place-requires-clause-flush
suited_place-place-requires-clause-flush c = c.ready-at.ensures.there c.flush_at-flush.result.now c.flush_at-flush.ensures

pub suited_place-place-requires-clause-row : goal.suited_place-place-requires-clause-row
suited_place-place-requires-clause-row c = let t = c.loop-pot-test.true in row_at c.args.front.now c.loop-pot.pot c.from.result c.index-rows-from.result c.from.ensures (omega arith) c.index-rows-from.is
