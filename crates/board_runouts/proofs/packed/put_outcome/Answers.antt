use Rattle.std.proofs.Common.{◌+◌, ◌*◌, ℕ, sym, ap, ◌∙◌, arith}
use Rattle.std.specs.Prelude.{slice_index}
use Rattle.card_sets.specs.declared.games.Side.TheVariants.{High, Low}
use Rattle.showdown_tally.specs.Deals.{deal_of}
use Rattle.showdown_tally.specs.Showdown.{Showdown}
use Rattle.board_runouts.proofs.PairCounts.{adds_pot, board_high, put_end, room_out}
use Rattle.board_runouts.proofs.packed.put_outcome.Goals as goal

pub loop-pot-preserved : goal.loop-pot-preserved
loop-pot-preserved c =
    let deal : Showdown = deal_of c.args.spot.now.table in
    let was = c.loop-pot.invariant in
    let main : ℕ = slice_index c.args.outcome.now (2 * c.from-at.result) in
    let low : ℕ = slice_index c.args.outcome.now (2 * c.from-at.result + 1) in
    record {
      put = put_end deal c.args.outcome.now c.args.times c.loop-pot.pot _ main low c.args.counts.now c.loop-pot.counts c.add_place.new.counts (omega arith)
          (ap (slice_index c.args.outcome.now) (let f = c.from-at.ensures in omega arith)) (ap (slice_index c.args.outcome.now) (let f = c.from-at.ensures in omega arith))
          (adds_pot deal c.args.times c.loop-pot.pot main low c.loop-pot.counts c.add_place.new.counts c.add_place.ensures.high (λ p k has. c.add_place.ensures.low p k (c.has_side-two_sides.ensures ∙ has)))
          was.put;
      same = c.add_place.ensures.places ∙ was.same;
    }

pub add_place-requires-clause-fits_main : goal.add_place-requires-clause-fits_main
add_place-requires-clause-fits_main c =
    let n = c.args.spot.now.pots in
    let t = c.loop-pot-test.true in
    room_out (deal_of c.args.spot.now.table) c.args.outcome.now c.args.times c.loop-pot.pot (slice_index c.args.outcome.now (2 * c.from-at.result)) High c.args.counts.now c.loop-pot.counts c.requires.fits (omega arith) (board_high c.args.spot.now.table.known.game c.args.spot.now.dealt)
    (ap (slice_index c.args.outcome.now) (let f = c.from-at.ensures in omega arith)) (c.requires.few (2 * c.from-at.result)) c.loop-pot.invariant.put

pub add_place-requires-clause-fits_low : goal.add_place-requires-clause-fits_low
add_place-requires-clause-fits_low c = λ two.
    let n = c.args.spot.now.pots in
    let t = c.loop-pot-test.true in
    room_out (deal_of c.args.spot.now.table) c.args.outcome.now c.args.times c.loop-pot.pot (slice_index c.args.outcome.now (2 * c.from-at.result + 1)) Low c.args.counts.now c.loop-pot.counts c.requires.fits (omega arith) (sym c.has_side-two_sides.ensures ∙ two)
    (ap (slice_index c.args.outcome.now) (let f = c.from-at.ensures in omega arith)) (c.requires.few (2 * c.from-at.result + 1)) c.loop-pot.invariant.put

pub returns-clause-counts : goal.returns-clause-counts
returns-clause-counts c = λ pot place side p has l. c.loop-pot.invariant.put.done pot place side (let n = c.args.spot.now.pots in let e = c.loop-pot-test.false in omega arith) has
