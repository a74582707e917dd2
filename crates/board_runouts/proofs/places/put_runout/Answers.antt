use Rattle.std.proofs.Common.{sym, ◌∙◌, arith}
use Rattle.card_sets.specs.declared.games.Side.TheVariants.{High, Low}
use Rattle.showdown_tally.specs.Deals.{deal_of}
use Rattle.showdown_tally.specs.Showdown.{Showdown}
use Rattle.board_runouts.specs.declared.row.Row.{Row}
use Rattle.board_runouts.proofs.FrontFacts.{row_of}
use Rattle.board_runouts.proofs.PairCounts.{adds_pot, board_high, put_pot, room_there}
use Rattle.board_runouts.proofs.places.put_runout.Goals as goal

pub loop-pot-preserved : goal.loop-pot-preserved
loop-pot-preserved c =
    let deal : Showdown = deal_of c.args.front.now.spot.now.table in
    let row : Row = c.index-rows-from.result in
    let found = row_of c.args.front.now c.loop-pot.pot c.from.result c.index-rows-from.result c.from.ensures c.loop-pot-test.true c.index-rows-from.is in
    let was = c.loop-pot.invariant in
    record {
      put = put_pot deal c.args.front.now.rows.now c.args.ranks 1 c.loop-pot.pot _ row c.args.counts.now c.loop-pot.counts c.add_place.new.counts (omega arith) found
          (adds_pot deal 1 c.loop-pot.pot _ _ c.loop-pot.counts c.add_place.new.counts c.add_place.ensures.high (λ p k has. c.add_place.ensures.low p k (c.has_side-two_sides.ensures ∙ has)))
          was.put;
      same = c.add_place.ensures.places ∙ was.same;
    }

pub add_place-requires-clause-fits_main : goal.add_place-requires-clause-fits_main
add_place-requires-clause-fits_main c =
    let n = c.args.front.now.spot.now.pots in
    let t = c.loop-pot-test.true in
    room_there (deal_of c.args.front.now.spot.now.table) c.args.front.now.rows.now c.args.ranks c.loop-pot.pot High c.index-rows-from.result c.args.counts.now c.loop-pot.counts c.requires.room.fits (omega arith) (board_high c.args.front.now.spot.now.table.known.game c.args.front.now.spot.now.dealt) (c.index-rows-from.result.few_mains c.args.ranks) c.loop-pot.invariant.put

pub add_place-requires-clause-fits_low : goal.add_place-requires-clause-fits_low
add_place-requires-clause-fits_low c = λ two.
    let n = c.args.front.now.spot.now.pots in
    let t = c.loop-pot-test.true in
    room_there (deal_of c.args.front.now.spot.now.table) c.args.front.now.rows.now c.args.ranks c.loop-pot.pot Low c.index-rows-from.result c.args.counts.now c.loop-pot.counts c.requires.room.fits (omega arith) (sym c.has_side-two_sides.ensures ∙ two) (let f = c.index-rows-from.result.few_lows c.args.ranks in omega arith) c.loop-pot.invariant.put

pub returns-clause-counts : goal.returns-clause-counts
returns-clause-counts c = λ pot number side row p has found. c.loop-pot.invariant.put.done pot number side row (let n = c.args.front.now.spot.now.pots in let e = c.loop-pot-test.false in omega arith) has found

pub add_place-requires-clause-inside : goal.add_place-requires-clause-inside
add_place-requires-clause-inside c =
    let r = c.requires.room.rows in
    let s = c.loop-pot.invariant.same in
    let t = c.loop-pot-test.true in
    omega arith
