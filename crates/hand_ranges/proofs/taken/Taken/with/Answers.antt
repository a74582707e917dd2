use Rattle.std.proofs.Common.{◌+◌, ◌*◌, ◌^◌, ◌≤◌, ◌<◌, ◌∙◌, ap, sym, length, take, set, arith}
use Rattle.std.proofs.lemmas.List.{take_more_set}
use Rattle.range_lines.specs.Choices.{is_disjoint, weight_of}
use Rattle.range_lines.proofs.CallerLemmas.{taken_disjoint, taken_weight, taken_light}
use Rattle.hand_ranges.proofs.taken.Taken.with.Goals as goal

pub invariant_of-more-clause-disjoint : goal.invariant_of-more-clause-disjoint
invariant_of-more-clause-disjoint c =
    let t = c.args.self.now in
    let inside : t.count < length t.hands = omega (arith, c.facts.ensures.count, c.facts.ensures.places, c.requires.room) in
    ap (λ p. is_disjoint (take (t.count + 1) (set t.hands p c.args.w))) c.from-place.ensures ∙ taken_disjoint t.hands t.count c.args.w inside t.disjoint c.requires.apart

pub invariant_of-more-clause-product : goal.invariant_of-more-clause-product
invariant_of-more-clause-product c =
    let t = c.args.self.now in
    let inside : t.count < length t.hands = omega (arith, c.facts.ensures.count, c.facts.ensures.places, c.requires.room) in
    c.times-weight.ensures ∙ taken_weight t.hands t.count t.weight c.args.w inside t.product ∙ ap (λ p. weight_of (take (t.count + 1) (set t.hands p c.args.w))) (sym c.from-place.ensures)

pub invariant_of-more-clause-light : goal.invariant_of-more-clause-light
invariant_of-more-clause-light c =
    let small : c.args.self.now.weight * c.args.w.weight ≤ 256 ^ (c.args.self.now.count + 1) = taken_light c.args.self.now.count c.args.self.now.weight c.args.w.weight c.args.self.now.light (omega arith) in
    omega (arith, c.times-weight.ensures, small)

pub returns-clause-hands : goal.returns-clause-hands
returns-clause-hands c =
    let t = c.args.self.now in
    let inside : t.count < length t.hands = omega (arith, c.facts.ensures.count, c.facts.ensures.places, c.requires.room) in
    ap (λ p. take (t.count + 1) (set t.hands p c.args.w)) c.from-place.ensures ∙ take_more_set t.hands t.count c.args.w inside
