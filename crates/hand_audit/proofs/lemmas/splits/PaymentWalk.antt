-- The walk over the seats that lists the payments of a pot, and the first of these beyond its tolerance.
use Rattle.std.proofs.Common.{◌≡◌, ℕ, zero, suc, ◌+◌, ◌-◌, ◌<◌, ◌≤◌, List, [], ◌∷◌, ◌++◌, refl, sym, ap, ◌∙◌, Bool, true, false, ◌==◌, ◌&&◌, ◌||◌, arith, append_assoc}
use Rattle.std.specs.Prelude.{Some, nat_lt, if◌then◌else◌}
use Rattle.std.proofs.lemmas.Bool.Decides.{nat_tests}
use Rattle.std.proofs.lemmas.List.Sums.{sum_by-cons}
use Rattle.hand_events.specs.declared.events.PotName.{PotName}
use Rattle.hand_audit.specs.declared.collections.Collection.{Collection}
use Rattle.hand_verdict.specs.declared.settlement.Payment.{Payment}
use Rattle.hand_audit.specs.Collections.{taken_from, got_from}
use Rattle.hand_verdict.specs.declared.parts.PartShare.{PartShare}
use Rattle.hand_audit.specs.declared.dues.Dues.{Dues}
use Rattle.hand_audit.specs.Parts.{units_in_all, units_of}
use Rattle.hand_audit.specs.SettlementAnswers.{due_by, payment_by}
use Rattle.hand_audit.specs.Settle.{payments_from, beyond_among, beyond_from, is_payment, distance}

-- a seat has no more than was taken from the pot
pub got_within : (test : PotName → Bool) (seat : ℕ) (all : List Collection) → got_from test seat all ≤ taken_from test all
got_within test seat [] = omega arith
got_within test seat (c ∷ all) =
    let one : (if test c.pot && (c.seat == seat) then c.units else 0) ≤ (if test c.pot then c.units else 0) = by (test c.pot) (c.seat == seat) in
    omega (arith, one, got_within test seat all, sum_by-cons (λ (c : Collection). if test c.pot && (c.seat == seat) then c.units else 0) c all, sum_by-cons (λ (c : Collection). if test c.pot then c.units else 0) c all)
  where
    by : (a b : Bool) → (if a && b then c.units else 0) ≤ (if a then c.units else 0)
    by true true = omega arith
    by true false = omega arith
    by false b = omega arith

-- a seat is given no more than all are
pub units_within : (seat : ℕ) (all : List PartShare) → units_of seat all ≤ units_in_all all
units_within seat [] = omega arith
units_within seat (share ∷ all) =
    let one : (if share.seat == seat then share.units else 0) ≤ share.units = by (share.seat == seat) in
    omega (arith, one, units_within seat all, sum_by-cons (λ (x : PartShare). if x.seat == seat then x.units else 0) share all, sum_by-cons (λ (x : PartShare). x.units) share all)
  where
    by : (a : Bool) → (if a then share.units else 0) ≤ share.units
    by true = omega arith
    by false = omega arith

-- the payment of a seat that got so much and is due so much
pub payment_is : (dues : Dues) (test : PotName → Bool) (all : List Collection) (seat taken given : ℕ) (pay : Payment) → pay ≡ record { seat = seat; got = taken; due = if dues.checked then given else taken }
    → taken ≡ got_from test seat all → given ≡ due_by dues seat → pay ≡ payment_by dues test all seat
payment_is dues test all seat taken given pay is took due = is ∙ rw (took, due) refl

pays_none : (f : ℕ → Payment) (p : ℕ) → is_payment (f p) ≡ false → p < 11 → payments_from f p (11 - p) ≡ payments_from f (p + 1) (11 - (p + 1))
pays_none f p none h = let more : 11 - p ≡ suc (11 - (p + 1)) = omega arith in rw (more, none) refl

pays_some : (f : ℕ → Payment) (p : ℕ) → is_payment (f p) ≡ true → p < 11 → payments_from f p (11 - p) ≡ f p ∷ payments_from f (p + 1) (11 - (p + 1))
pays_some f p some h = let more : 11 - p ≡ suc (11 - (p + 1)) = omega arith in rw (more, some) refl

pub none_more : (f : ℕ → Payment) (p : ℕ) (old all : List Payment) (pay : Payment) → pay ≡ f p → is_payment pay ≡ false → p < 11 → old ++ payments_from f p (11 - p) ≡ all → old ++ payments_from f (p + 1) (11 - (p + 1)) ≡ all
none_more f p old all pay is none h so_far = ap (λ xs. old ++ xs) (sym (pays_none f p (ap is_payment (sym is) ∙ none) h)) ∙ so_far

pub some_more : (f : ℕ → Payment) (p : ℕ) (old new all : List Payment) (pay : Payment) → pay ≡ f p → is_payment pay ≡ true → p < 11 → new ≡ old ++ pay ∷ [] → old ++ payments_from f p (11 - p) ≡ all → new ++ payments_from f (p + 1) (11 - (p + 1)) ≡ all
some_more f p old new all pay is some h push so_far =
    let rest : List Payment = payments_from f (p + 1) (11 - (p + 1)) in
    ap (λ xs. xs ++ rest) push ∙ append_assoc old (pay ∷ []) rest ∙ ap (λ x. old ++ x ∷ rest) is ∙ ap (λ xs. old ++ xs) (sym (pays_some f p (ap is_payment (sym is) ∙ some) h)) ∙ so_far

-- whoever got nothing and is due nothing isn't beyond his tolerance: the first that is, is among the payments
nothing_paid : (n got due : ℕ) → (nat_lt 0 got || nat_lt 0 due) ≡ false → nat_lt n (distance got due) ≡ false
nothing_paid n got due none =
    let parts : (nat_lt 0 got ≡ false) × (nat_lt 0 due ≡ false) = neither (nat_lt 0 got) (nat_lt 0 due) none in
    let no_got : got ≡ 0 = (let a : nat_lt 0 got ≡ false = parts.0 in grind (arith, nat_tests)) in
    let no_due : due ≡ 0 = (let b : nat_lt 0 due ≡ false = parts.1 in grind (arith, nat_tests)) in
    rw (no_got, no_due) (above n)
  where
    neither : (a b : Bool) → (a || b) ≡ false → (a ≡ false) × (b ≡ false)
    neither false false h = (refl, refl)
    neither true b h = cc
    neither false true h = cc

    above : (n : ℕ) → nat_lt n 0 ≡ false
    above n = grind (arith, nat_tests)

pub first_among : (f : ℕ → Payment) (t : ℕ → ℕ) (p n : ℕ) → ((q : ℕ) → (f q).seat ≡ q) → beyond_among t (payments_from f p n) ≡ beyond_from f t p n
first_among f t p zero seats = refl
first_among f t p (suc n) seats = by (is_payment (f p)) refl (first_among f t (p + 1) n seats)
  where
    by : (b : Bool) → is_payment (f p) ≡ b → beyond_among t (payments_from f (p + 1) n) ≡ beyond_from f t (p + 1) n → beyond_among t (payments_from f p (suc n)) ≡ beyond_from f t p (suc n)
    by true is rest = rw (is, seats p, rest) refl
    by false is rest = rw (is, nothing_paid (t p) (f p).got (f p).due is) rest

-- payments and tolerances that are the same for each seat
pub same_payments : (f g : ℕ → Payment) (p n : ℕ) → 1 ≤ p → p + n ≤ 11 → ((q : ℕ) → 1 ≤ q → q ≤ 10 → f q ≡ g q) → payments_from f p n ≡ payments_from g p n
same_payments f g p zero low high same = refl
same_payments f g p (suc n) low high same =
    ap (λ (x : Payment). if is_payment x then x ∷ payments_from f (p + 1) n else payments_from f (p + 1) n) (same p low (omega (arith, high)))
    ∙ ap (λ xs. if is_payment (g p) then g p ∷ xs else xs) (same_payments f g (p + 1) n (omega arith) (omega (arith, high)) same)

pub same_beyond : (f g : ℕ → Payment) (t u : ℕ → ℕ) (p n : ℕ) → 1 ≤ p → p + n ≤ 11 → ((q : ℕ) → 1 ≤ q → q ≤ 10 → f q ≡ g q) → ((q : ℕ) → 1 ≤ q → q ≤ 10 → t q ≡ u q)
    → beyond_from f t p n ≡ beyond_from g u p n
same_beyond f g t u p zero low high same near = refl
same_beyond f g t u p (suc n) low high same near =
    ap (λ (x : Payment). if nat_lt (t p) (distance x.got x.due) then Some x else beyond_from f t (p + 1) n) (same p low (omega (arith, high)))
    ∙ ap (λ k. if nat_lt k (distance (g p).got (g p).due) then Some (g p) else beyond_from f t (p + 1) n) (near p low (omega (arith, high)))
    ∙ ap (λ o. if nat_lt (u p) (distance (g p).got (g p).due) then Some (g p) else o) (same_beyond f g t u (p + 1) n (omega arith) (omega (arith, high)) same near)
