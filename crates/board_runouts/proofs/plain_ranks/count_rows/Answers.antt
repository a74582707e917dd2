use Rattle.std.proofs.Common.{◌<◌, ℕ, List, sym, ap, ◌∙◌, arith, Some, subst}
use Rattle.std.specs.Prelude.{slice_index}
use Rattle.std.proofs.lemmas.Option.{slice_get-get_or}
use Rattle.runout_ranges.proofs.CallerLemmas.{member_at}
use Rattle.showdown_tally.specs.Deals.{deal_of}
use Rattle.board_runouts.specs.PlainRanks.{RowsGrow}
use Rattle.board_runouts.proofs.PlainPairs.{rows_next, rows_room}
use Rattle.board_ranks.proofs.CallerLemmas.{take_most}
use Rattle.board_runouts.proofs.plain_ranks.count_rows.Goals as goal

pub put_runout-requires-clause-inside : goal.put_runout-requires-clause-inside
put_runout-requires-clause-inside g c =
    let all : List ℕ = c.args.all.now in
    let i : ℕ = c.loop-ranks.ranks-index in
    let at : slice_index all i < 169 = c.requires.inside (slice_index all i) (member_at all i (slice_index all i) (slice_get-get_or all i 0 c.loop-ranks-test.true)) in
    omega (arith, at, c.from.ensures)

pub put_runout-requires-clause-room : goal.put_runout-requires-clause-room
put_runout-requires-clause-room g c = record {
  rows = (let r = c.requires.room.rows in let s = c.loop-ranks.invariant.same in omega arith);
  fits = rows_room (deal_of c.args.front.now.spot.now.table) c.args.front.now.rows.now c.args.all.now c.loop-ranks.ranks-index c.args.counts.now c.loop-ranks.counts (c.args.front.now.pots ∙ sym c.args.front.now.spot.now.pots) c.requires.room.fits c.loop-ranks-test.true c.loop-ranks.invariant.grown;
}

pub loop-ranks-preserved : goal.loop-ranks-preserved
loop-ranks-preserved g c =
    let was = c.loop-ranks.invariant in
    let e = c.put_runout.ensures in
    let all : List ℕ = c.args.all.now in
    let i : ℕ = c.loop-ranks.ranks-index in
    record {
      grown = rows_next (deal_of c.args.front.now.spot.now.table) c.args.front.now.rows.now all i _ c.from.result c.args.counts.now c.loop-ranks.counts c.put_runout.new.counts (omega arith) (slice_get-get_or all i 0 c.loop-ranks-test.true ∙ ap Some (sym c.from.ensures)) was.grown (λ pot number side row p has found. e.counts pot number side row p has found);
      same = e.same ∙ was.same;
      steps = (let s = was.steps in omega (arith, c.tick.ensures));
    }

pub returns-clause-counts : goal.returns-clause-counts
returns-clause-counts g c =
    let R : List ℕ → Type 0 = λ all. RowsGrow (deal_of c.args.front.now.spot.now.table) c.args.front.now.rows.now all c.args.counts.now c.loop-ranks.counts in
    subst R (take_most c.args.all.now c.loop-ranks.ranks-index (let t = c.loop-ranks-test.false in omega arith)) c.loop-ranks.invariant.grown
