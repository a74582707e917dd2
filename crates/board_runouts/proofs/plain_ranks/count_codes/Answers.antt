use Rattle.std.proofs.Common.{◌≡◌, ◌-◌, ◌∙◌, ℕ, List, length, arith}
use Rattle.std.specs.List.{slice_range}
use Rattle.board_runouts.specs.Fronts.{front_deal}
use Rattle.runout_walk.proofs.CallerLemmas.{in_range, length-range}
use Rattle.board_runouts.proofs.PlainPairs.{codes_on, codes_room, piece_fields, piece_room}
use Rattle.board_runouts.proofs.plain_ranks.count_codes.Goals as goal

pub sum_ranks-sum-requires-clause-inside : goal.sum_ranks-sum-requires-clause-inside
sum_ranks-sum-requires-clause-inside g c = λ ranks m. c.requires.inside ranks (in_range c.args.all.now c.loop-at.at c.min-end.result ranks m)

pub sum_ranks-sum-requires-clause-coded : goal.sum_ranks-sum-requires-clause-coded
sum_ranks-sum-requires-clause-coded g c = λ ranks m. c.requires.coded ranks (in_range c.args.all.now c.loop-at.at c.min-end.result ranks m)

pub put_sum-requires-clause-counts : goal.put_sum-requires-clause-counts
put_sum-requires-clause-counts g c = let r = c.requires.room.rows in let s = c.loop-at.invariant.same in omega arith

pub put_sum-requires-clause-fits : goal.put_sum-requires-clause-fits
put_sum-requires-clause-fits g c =
    let m = c.min-end.ensures in
    let t = c.loop-at-test.true in
    let piece : List ℕ = slice_range c.args.all.now c.loop-at.at c.min-end.result in
    let size : length piece ≡ c.min-end.result - c.loop-at.at = length-range c.args.all.now c.loop-at.at c.min-end.result (omega arith) (omega arith) in
    piece_room (front_deal c.args.front.now) c.args.codes.now piece c.sum_ranks-sum.result c.loop-at.counts (λ ranks m. c.requires.coded ranks (in_range c.args.all.now c.loop-at.at c.min-end.result ranks m)) (omega arith) c.seven.ensures c.sum_ranks-sum.ensures.sum
    (codes_room (front_deal c.args.front.now) c.args.codes.now c.args.all.now c.loop-at.at (length piece) c.args.counts.now c.loop-at.counts c.requires.room.fits (omega arith) c.loop-at.invariant.grown)

pub loop-at-preserved : goal.loop-at-preserved
loop-at-preserved g c =
    let was = c.loop-at.invariant in
    let m = c.min-end.ensures in
    let t = c.loop-at-test.true in
    let piece : List ℕ = slice_range c.args.all.now c.loop-at.at c.min-end.result in
    let size : length piece ≡ c.min-end.result - c.loop-at.at = length-range c.args.all.now c.loop-at.at c.min-end.result (omega arith) (omega arith) in
    record {
      within = omega arith;
      grown = codes_on (front_deal c.args.front.now) c.args.codes.now c.args.all.now c.loop-at.at c.min-end.result c.args.counts.now c.loop-at.counts c.put_sum.new.counts (omega arith) was.grown
          (piece_fields (front_deal c.args.front.now) c.args.codes.now piece c.sum_ranks-sum.result c.loop-at.counts c.put_sum.new.counts (λ ranks m. c.requires.coded ranks (in_range c.args.all.now c.loop-at.at c.min-end.result ranks m)) (omega arith) c.seven.ensures c.sum_ranks-sum.ensures.sum c.put_sum.ensures.counts);
      same = c.put_sum.ensures.same ∙ was.same;
      steps = (let s = was.steps in let n = c.sum_ranks-sum.ensures.steps in omega arith);
    }
