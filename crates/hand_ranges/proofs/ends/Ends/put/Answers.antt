use Rattle.std.proofs.Common.{◌≡◌, ◌+◌, ◌*◌, ◌<◌, ◌∙◌, length, ap, arith}
use Rattle.hand_ranges.proofs.EndSums.{entry_most, worth_more}
use Rattle.hand_ranges.proofs.ends.Ends.put.Goals as goal

pub overflow_add-self : goal.overflow_add-self
overflow_add-self c =
    let sets = c.args.self.now.sets in
    let inside : c.from-2.result < length sets = omega (arith, c.from-2.ensures, c.requires.place, c.places.ensures) in
    omega (arith, entry_most sets 0 c.from-2.result inside, c.requires.within, c.from.ensures)

pub returns-clause-grows : goal.returns-clause-grows
returns-clause-grows c = λ by_set each.
    let sets = c.args.self.now.sets in
    let place = c.from-2.result in
    let inside : place < length sets = omega (arith, c.from-2.ensures, c.requires.place, c.places.ensures) in
    let at : 0 + place ≡ c.args.place = omega (arith, c.from-2.ensures) in
    let more = worth_more sets 0 place c.from.result by_set inside in
    let same = ap (λ k. c.from.result * by_set k) at ∙ ap (λ n. n * by_set c.args.place) c.from.ensures in
    omega (arith, more, same)
