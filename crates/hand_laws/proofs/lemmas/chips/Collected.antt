-- What all seats collected is all that was collected.
use Rattle.std.proofs.Common.{◌≡◌, ℕ, ◌+◌, List, [], ◌∷◌, refl, ap, ◌∙◌, Bool, true, false, ◌==◌, ◌&&◌, arith}
use Rattle.std.specs.Prelude.{if◌then◌else◌}
use Rattle.std.proofs.lemmas.List.Sums.{sum_by-cons}
use Rattle.hand_events.specs.declared.events.PotName.{PotName}
use Rattle.hand_audit.specs.declared.collections.Collection.{Collection}
use Rattle.hand_laws.specs.Chips.{over_seats}
use Rattle.hand_audit.specs.Collections.{taken, taken_from, got_from}
use Rattle.hand_laws.proofs.lemmas.chips.SeatSums.{sum_same, sum_plus, at_seat, at_seat_is, sum_at, no_sum}
use Rattle.hand_audit.proofs.CallerLemmas.{AreSeats}

-- what counts of a collection, from pots of which a test holds
abbrev counted : (PotName → Bool) → Collection → ℕ
counted test c = if test c.pot then c.units else 0

pub both_tests : (a b : Bool) (n : ℕ) → (if a && b then n else 0) ≡ (if b then (if a then n else 0) else 0)
both_tests true b n = refl
both_tests false true n = refl
both_tests false false n = refl

got_cons : (test : PotName → Bool) (c : Collection) (all : List Collection) (q : ℕ) → got_from test q (c ∷ all) ≡ at_seat c.seat (counted test c) q + got_from test q all
got_cons test c all q =
    sum_by-cons (λ (d : Collection). if test d.pot && (d.seat == q) then d.units else 0) c all ∙ ap (λ n. n + got_from test q all) (both_tests (test c.pot) (c.seat == q) c.units ∙ at_seat_is c.seat (counted test c) q)

pub got_is_taken_from : (test : PotName → Bool) (all : List Collection) → AreSeats all → over_seats (λ p. got_from test p all) ≡ taken_from test all
got_is_taken_from test [] a = no_sum 1 10
got_is_taken_from test (c ∷ all) a =
    let split : over_seats (λ p. got_from test p (c ∷ all)) ≡ over_seats (at_seat c.seat (counted test c)) + over_seats (λ p. got_from test p all) =
    sum_same (λ p. got_from test p (c ∷ all)) (λ p. at_seat c.seat (counted test c) p + got_from test p all) 1 10 (omega arith) (λ q l. got_cons test c all q)
    ∙ sum_plus (at_seat c.seat (counted test c)) (λ p. got_from test p all) 1 10 in
    let low = a.0 in
    let high = a.1 in
    let one : over_seats (at_seat c.seat (counted test c)) ≡ counted test c = sum_at c.seat (counted test c) 1 10 low (omega (arith, high)) in
    let rest = got_is_taken_from test all a.2 in
    omega (arith, split, one, rest, sum_by-cons (λ (d : Collection). if test d.pot then d.units else 0) c all)

pub got_is_taken : (all : List Collection) → AreSeats all → over_seats (λ p. got_from (λ pot. true) p all) ≡ taken all
got_is_taken all a = got_is_taken_from (λ pot. true) all a
