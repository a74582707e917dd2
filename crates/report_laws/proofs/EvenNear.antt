-- What the hands of an all-in would have got with even luck, each rounded, is near what their players got.
use Rattle.std.proofs.Common.{◌≡◌, ℕ, zero, suc, ◌+◌, ◌*◌, ◌<◌, ◌≤◌, List, [], ◌∷◌, length, length-append, refl, ap, ◌∙◌, arith}
use Rattle.std.specs.List.{sum_by}
use Rattle.std.proofs.lemmas.List.Sums.{sum_by-cons}
use Rattle.std.proofs.Math.Nat.{le_of_mul-le-mul_left}
use Rattle.even_luck.specs.EvenLuck.{even_got, shared_pots}
use Rattle.even_luck.specs.Figures.{full_figures, given_to}
use Rattle.even_luck.specs.Seats.{contenders}
use Rattle.hand_verdict.specs.declared.settlement.Settlement.{Settlement}
use Rattle.report_laws.specs.EvenLaws.{EvenIsNear, IsNearest, even_of_all, got_of_contenders}
use Rattle.report_laws.specs.ExpectLaws.{EvenAddsUp}
use Rattle.report_laws.proofs.ExpectFacts.{multiple, sum_of_equals}
use Rattle.report_laws.proofs.NearestUnits.{rounded}
use Rattle.report_sheet.specs.SpotLines.{every_hand}
use Rattle.showdown_tally.specs.Showdown.{Showdown}
use Rattle.showdown_tally.specs.Tallies.{runouts_after}

length-every : (n : ℕ) → length (every_hand n) ≡ n
length-every zero = refl
length-every (suc n) = omega (arith, length-append (every_hand n) (n ∷ []), length-every n)

-- numbers that differ by so much at most have sums that differ by so much for each
bounded : (f g : ℕ → ℕ) (more : ℕ) (hands : List ℕ) → ((h : ℕ) → f h ≤ g h + more) → sum_by f hands ≤ sum_by g hands + sum_by (λ h. more) hands
bounded f g more [] near = omega arith
bounded f g more (h ∷ hands) near = omega (arith, sum_by-cons f h hands, sum_by-cons g h hands, sum_by-cons (λ h. more) h hands, near h, bounded f g more hands near)

constant : (more : ℕ) (hands : List ℕ) → sum_by (λ h. more) hands ≡ more * length hands
constant more hands = sum_of_equals (λ h. more) more hands (λ k d below. refl)

two_over : (pieces n : ℕ) → 2 * pieces * n ≡ pieces * (2 * n)
two_over pieces n = grind arith

shares : (pieces units n : ℕ) → 2 * (units * pieces) + pieces * n ≡ pieces * (2 * units + n)
shares pieces units n = grind arith

and_more : (pieces units n : ℕ) → 2 * pieces * units + pieces * n ≡ pieces * (2 * units + n)
and_more pieces units n = grind arith

two_shares : (pieces units : ℕ) → 2 * (units * pieces) ≡ pieces * (2 * units)
two_shares pieces units = grind arith

one_above : (pieces units : ℕ) → 2 * pieces * (units + 1) ≡ 2 * pieces * units + 2 * pieces
one_above pieces units = grind arith

pub even_is_near : (s : Settlement) (seats : List ℕ) (deal : Showdown) → 0 < length (runouts_after deal.state) → EvenAddsUp s.pots seats deal → EvenIsNear s seats deal
even_is_near s seats deal some all = record { not_above = above; not_below = below }
  where
    pieces : ℕ
    pieces = 5040 * length (runouts_after deal.state)

    even : ℕ → ℕ
    even hand = even_got s seats deal hand

    given : ℕ → ℕ
    given hand = given_to (shared_pots (contenders seats deal) s.pots) (full_figures deal) hand (length deal.pots)

    hands : List ℕ
    hands = every_hand (length deal.state.hands)

    got : ℕ
    got = got_of_contenders s seats deal

    pieces_some : 0 < pieces
    pieces_some = omega (arith, some)

    near : (hand : ℕ) → IsNearest (given hand) pieces (even hand)
    near hand = rounded (given hand) pieces pieces_some

    evens : sum_by (λ h. 2 * pieces * even h) hands ≡ 2 * pieces * even_of_all s seats deal
    evens = multiple (2 * pieces) even hands

    gots : sum_by (λ h. 2 * given h) hands ≡ 2 * (got * pieces)
    gots = multiple 2 given hands ∙ ap (λ n. 2 * n) all

    halves : sum_by (λ h. pieces) hands ≡ pieces * length deal.state.hands
    halves = constant pieces hands ∙ ap (λ n. pieces * n) (length-every (length deal.state.hands))

    least : (h : ℕ) → 2 * given h ≤ 2 * pieces * even h + pieces
    least h = let n = near h in let e = one_above pieces (even h) in omega (arith, n.not_below, e)

    above : 2 * even_of_all s seats deal ≤ 2 * got + length deal.state.hands
    above =
        let sums = bounded (λ h. 2 * pieces * even h) (λ h. 2 * given h) pieces hands (λ h. let n = near h in n.not_above) in
        let left = evens ∙ two_over pieces (even_of_all s seats deal) in
        let right = shares pieces got (length deal.state.hands) in
        let whole : pieces * (2 * even_of_all s seats deal) ≤ pieces * (2 * got + length deal.state.hands) = omega (arith, sums, left, gots, halves, right) in
        le_of_mul-le-mul_left whole pieces_some

    below : 2 * got ≤ 2 * even_of_all s seats deal + length deal.state.hands
    below =
        let sums = bounded (λ h. 2 * given h) (λ h. 2 * pieces * even h) pieces hands least in
        let left = gots ∙ two_shares pieces got in
        let right = and_more pieces (even_of_all s seats deal) (length deal.state.hands) in
        let whole : pieces * (2 * got) ≤ pieces * (2 * even_of_all s seats deal + length deal.state.hands) = omega (arith, sums, left, evens, halves, right) in
        le_of_mul-le-mul_left whole pieces_some
