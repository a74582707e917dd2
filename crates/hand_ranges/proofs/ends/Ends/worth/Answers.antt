use Rattle.std.proofs.Common.{rules, ◌≡◌, ◌+◌, ◌*◌, ◌<◌, ◌≤◌, ◌^◌, ◌∙◌, length, take, get_or, sym, ap, arith}
use Rattle.hand_ranges.specs.Boards.{worth_from}
use Rattle.hand_ranges.proofs.EndSums.{entry_most, entry_small, part_most, small_step, worth_take}
use Rattle.hand_ranges.proofs.ends.Ends.worth.Goals as goal

pub overflow_mul-worth : goal.overflow_mul-worth
overflow_mul-worth g c =
    let sets = c.args.self.now.sets in
    let below : c.loop-place.place < 16 = search rules in
    let inside : c.from.result < length sets = omega (arith, c.from.ensures, below, c.places.ensures) in
    let entry : get_or sets c.from.result 0 ≤ 2 ^ 112 = omega (arith, entry_most sets 0 c.from.result inside, c.requires.within) in
    let share : c.from-in-loop-place.result ≤ 5040 = omega (arith, c.from-in-loop-place.ensures, c.requires.small c.loop-place.place c.share.result below c.share.ensures) in
    omega (arith, entry_small (get_or sets c.from.result 0) c.from-in-loop-place.result entry share)

pub overflow_add-worth : goal.overflow_add-worth
overflow_add-worth g c =
    let sets = c.args.self.now.sets in
    let below : c.loop-place.place < 16 = search rules in
    let inside : c.from.result < length sets = omega (arith, c.from.ensures, below, c.places.ensures) in
    let entry : get_or sets c.from.result 0 ≤ 2 ^ 112 = omega (arith, entry_most sets 0 c.from.result inside, c.requires.within) in
    let share : c.from-in-loop-place.result ≤ 5040 = omega (arith, c.from-in-loop-place.ensures, c.requires.small c.loop-place.place c.share.result below c.share.ensures) in
    omega (arith, entry_small (get_or sets c.from.result 0) c.from-in-loop-place.result entry share, c.loop-place.invariant.small, part_most sets 0 c.loop-place.place, c.requires.within)

pub loop-place-preserved : goal.loop-place-preserved
loop-place-preserved g c =
    let sets = c.args.self.now.sets in
    let place = c.loop-place.place in
    let below : place < 16 = search rules in
    let inside : place < length sets = omega (arith, below, c.places.ensures) in
    let n = c.from-in-loop-place.result in
    let same : get_or sets c.from.result 0 * n ≡ get_or sets place 0 * n = ap (λ k. get_or sets k 0 * n) c.from.ensures in
    let share : n ≤ 5040 = omega (arith, c.from-in-loop-place.ensures, c.requires.small place c.share.result below c.share.ensures) in
    record {
      worth = λ shares good.
          let here : n ≡ shares place = c.from-in-loop-place.ensures ∙ good place c.share.result below c.share.ensures in
          let at : get_or sets place 0 * shares (0 + place) ≡ get_or sets place 0 * n = ap (λ k. get_or sets place 0 * shares k) (let z : 0 + place ≡ place = omega arith in z) ∙ ap (λ k. get_or sets place 0 * k) (sym here) in
          omega (arith, c.loop-place.invariant.worth shares good, worth_take sets 0 place shares inside, same, at);
      small =
          let step = small_step c.loop-place.worth (worth_from 0 (take place sets) (λ set. 1)) (get_or sets place 0) n c.loop-place.invariant.small share in
          omega (arith, step, worth_take sets 0 place (λ set. 1) inside, same);
    }
