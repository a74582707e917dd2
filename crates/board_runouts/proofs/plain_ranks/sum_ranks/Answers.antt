use Rattle.std.proofs.Common.{◌≡◌, ◌+◌, ◌<◌, ℕ, List, suc, length, take, refl, ap, arith}
use Rattle.std.specs.Prelude.{slice_index}
use Rattle.std.specs.List.{sum_by}
use Rattle.std.proofs.lemmas.List.{length-take-le}
use Rattle.std.proofs.lemmas.Option.{slice_get-get_or}
use Rattle.runout_ranges.proofs.CallerLemmas.{member_at}
use Rattle.runout_walk.proofs.CallerLemmas.{in_take}
use Rattle.board_runouts.proofs.PackedSums.{sum_next}
use Rattle.board_runouts.proofs.PlainPairs.{ranks_room}
use Rattle.board_runouts.proofs.plain_ranks.sum_ranks.Goals as goal

pub bounds-codes-from : goal.bounds-codes-from
bounds-codes-from g c =
    let all : List ℕ = c.args.all.now in
    let i : ℕ = c.loop-ranks.ranks-index in
    let at : slice_index all i < 169 = c.requires.inside (slice_index all i) (member_at all i (slice_index all i) (slice_get-get_or all i 0 c.loop-ranks-test.true)) in
    omega (arith, at, c.from.ensures)

pub overflow_add-sum : goal.overflow_add-sum
overflow_add-sum g c =
    let all : List ℕ = c.args.all.now in
    let i : ℕ = c.loop-ranks.ranks-index in
    let add : ℕ → ℕ = λ ranks. slice_index c.args.codes.now.adds ranks in
    let size : length (take (suc i) all) ≡ suc i = length-take-le (suc i) all (let t = c.loop-ranks-test.true in omega arith) in
    let room : sum_by add (take (suc i) all) < 9223372036854775808 = ranks_room c.args.codes.now (take (suc i) all) (λ ranks m. c.requires.coded ranks (in_take (suc i) all ranks m)) (let f = c.requires.few in let t = c.loop-ranks-test.true in omega arith) in
    let next : sum_by add (take (suc i) all) ≡ sum_by add (take i all) + add (slice_index all i) = sum_next add all i (suc i) (slice_index all i) refl (slice_get-get_or all i 0 c.loop-ranks-test.true) in
    let was = c.loop-ranks.invariant.sum_is in
    let same : slice_index c.args.codes.now.adds c.from.result ≡ add (slice_index all i) = ap add c.from.ensures in
    omega (arith, room, next, was, same)

pub loop-ranks-preserved : goal.loop-ranks-preserved
loop-ranks-preserved g c =
    let all : List ℕ = c.args.all.now in
    let i : ℕ = c.loop-ranks.ranks-index in
    let add : ℕ → ℕ = λ ranks. slice_index c.args.codes.now.adds ranks in
    let next = sum_next add all i (i + 1) (slice_index all i) (omega arith) (slice_get-get_or all i 0 c.loop-ranks-test.true) in
    let was = c.loop-ranks.invariant.sum_is in
    let same : slice_index c.args.codes.now.adds c.from.result ≡ add (slice_index all i) = ap add c.from.ensures in
    record {
      sum_is = omega (arith, next, was, same);
      steps = (let s = c.loop-ranks.invariant.steps in omega (arith, c.tick.ensures));
    }
