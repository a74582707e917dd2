use Rattle.std.proofs.Common.{◌≡◌, length, take, drop, sym, ap, ◌∙◌, arith}
use Rattle.std.proofs.lemmas.List.{length-map, length-take-le}
use Rattle.street_walk.specs.Streets.{gets}
use Rattle.street_walk.proofs.StreetParts.{sum_next, take_front}
use Rattle.street_walk.proofs.next.next_street.Goals as goal

pub invariant_of-result-clause-enough : goal.invariant_of-result-clause-enough
invariant_of-result-clause-enough c =
    let whole = c.in-Some.whole in
    let long : whole.used ≡ length (c.give_next.new.slots) = sym (ap length c.give_next.ensures ∙ length-map (take whole.used whole.slots) (λ s. record { receiver = s.receiver; count = gets c.args.known.now.game s.receiver s.count }) ∙ length-take-le whole.used whole.slots (omega arith)) in
    let is = take_front whole.used c.give_next.new.slots (drop whole.used whole.slots) long ∙ c.give_next.ensures in
    rw is (omega (arith, sum_next c.args.known.now.game (take whole.used whole.slots), whole.enough))
