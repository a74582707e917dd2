-- What the payments of a settlement give a seat is what it collected.
use Rattle.std.proofs.Common.{◌≡◌, ℕ, zero, suc, ◌+◌, ◌<◌, ◌≤◌, List, [], ◌∷◌, refl, sym, ap, ◌∙◌, Bool, true, false, ◌==◌, ◌&&◌, length, map, arith}
use Rattle.std.specs.Prelude.{find, is_some, sum_by, if◌then◌else◌}
use Rattle.std.specs.List.{list_all}
use Rattle.std.specs.Option.{option_map_or}
use Rattle.std.proofs.lemmas.List.Sums.{sum_by-cons}
use Rattle.hand_events.specs.declared.events.PotName.{PotName}
use Rattle.pot_layers.specs.declared.paid.Pot.{Pot}
use Rattle.pot_layers.specs.Pots.{pots}
use Rattle.hand_audit.specs.declared.collections.Collection.{Collection}
use Rattle.hand_audit.specs.declared.pot_names.Source.TheVariants.{Numbered}
use Rattle.hand_verdict.specs.declared.settlement.Payment.{Payment}
use Rattle.hand_verdict.specs.declared.settlement.PotLine.{PotLine}
use Rattle.hand_audit.specs.Collections.{got_from, taken, taken_from}
use Rattle.hand_verdict.specs.SeatSums.{got_by}
use Rattle.hand_audit.specs.PotNames.{each_taken, fits, names_pot, pot_named}
use Rattle.hand_audit.specs.Settle.{Showing, hand_payment, is_payment, pay_of, payments_from, pot_line, pot_lines, settled, settled_of, unfit_line}
use Rattle.hand_laws.proofs.lemmas.chips.Collected.{both_tests}
use Rattle.hand_laws.proofs.lemmas.pot_sums.PaymentSums.{nothing}
use Rattle.hand_laws.proofs.lemmas.pot_sums.Rakes.{both_true, taken_by, taken_in_all}

-- the payments of the seats from one on, each with its own
abbrev pub OwnSeats : (ℕ → Payment) → Type 0
OwnSeats pay = (q : ℕ) → (pay q).seat ≡ q

-- so much of the payment of a seat, as what it got or what it is due; nothing where it has none
abbrev pub of_payment : (Payment → ℕ) → List Payment → ℕ → ℕ
of_payment f payments seat = option_map_or f (find (λ pay. pay.seat == seat) payments) 0

-- one payment more
paid_here : (f : Payment → ℕ) (pay : Payment) (later : List Payment) (q : ℕ) → pay.seat ≡ q → of_payment f (pay ∷ later) q ≡ f pay
paid_here f pay later q is = let here : (pay.seat == q) ≡ true = grind (arith, is) in rw here refl

paid_later : (f : Payment → ℕ) (pay : Payment) (later : List Payment) (q : ℕ) → (pay.seat == q) ≡ false → of_payment f (pay ∷ later) q ≡ of_payment f later q
paid_later f pay later q other = rw other refl

pub paid_none : (f : Payment → ℕ) (pay : ℕ → Payment) → OwnSeats pay → (p n q : ℕ) → q < p → of_payment f (payments_from pay p n) q ≡ 0
paid_none f pay own p zero q l = refl
paid_none f pay own p (suc n) q l = by (is_payment (pay p)) (paid_none f pay own (p + 1) n q (omega (arith, l)))
  where
    by : (b : Bool) → of_payment f (payments_from pay (p + 1) n) q ≡ 0 → of_payment f (if b then pay p ∷ payments_from pay (p + 1) n else payments_from pay (p + 1) n) q ≡ 0
    by true rest = let is = own p in let other : ((pay p).seat == q) ≡ false = grind (arith, is, l) in paid_later f (pay p) (payments_from pay (p + 1) n) q other ∙ rest
    by false rest = rest

pub paid_at : (f : Payment → ℕ) → ((pay : Payment) → is_payment pay ≡ false → f pay ≡ 0) → (pay : ℕ → Payment) → OwnSeats pay → (p n q : ℕ) → p ≤ q → q < p + n → of_payment f (payments_from pay p n) q ≡ f (pay q)
paid_at f none pay own p zero q l h = absurd (omega arith)
paid_at f none pay own p (suc n) q l h = by (is_payment (pay p)) (p == q) refl refl (λ far. paid_at f none pay own (p + 1) n q far (omega (arith, h)))
  where
    later : List Payment
    later = payments_from pay (p + 1) n

    by : (a b : Bool) → is_payment (pay p) ≡ a → (p == q) ≡ b → (p + 1 ≤ q → of_payment f later q ≡ f (pay q)) → of_payment f (if a then pay p ∷ later else later) q ≡ f (pay q)
    by true true ea eb rest =
        let same : p ≡ q = grind (arith, eb) in
        paid_here f (pay p) later q (own p ∙ same) ∙ ap (λ r. f (pay r)) same
    by false true ea eb rest =
        let same : p ≡ q = grind (arith, eb) in
        paid_none f pay own (p + 1) n q (omega (arith, same)) ∙ sym (ap (λ r. f (pay r)) (sym same) ∙ none (pay p) ea)
    by true false ea eb rest =
        let is = own p in
        let other : ((pay p).seat == q) ≡ false = grind (arith, is, eb) in
        let far : p + 1 ≤ q = grind (arith, eb) in
        paid_later f (pay p) later q other ∙ rest far
    by false false ea eb rest = let far : p + 1 ≤ q = grind (arith, eb) in rest far

got_paid : (pay : ℕ → Payment) → OwnSeats pay → (q : ℕ) → 1 ≤ q → q ≤ 10 → got_by (payments_from pay 1 10) q ≡ (pay q).got
got_paid pay own q low high = paid_at (λ x. x.got) (λ x none. (nothing x none).got) pay own 1 10 q low (omega (arith, high))

-- the collections of a seat: what it got is what was taken by them
of_seat : ℕ → List Collection → List Collection
of_seat q [] = []
of_seat q (c ∷ all) = if c.seat == q then c ∷ of_seat q all else of_seat q all

got_is_taken_of : (test : PotName → Bool) (q : ℕ) (all : List Collection) → got_from test q all ≡ taken_from test (of_seat q all)
unfolding of_seat
got_is_taken_of test q [] = refl
got_is_taken_of test q (c ∷ all) = by (c.seat == q) refl (got_is_taken_of test q all)
  where
    by : (b : Bool) → (c.seat == q) ≡ b → got_from test q all ≡ taken_from test (of_seat q all) → got_from test q (c ∷ all) ≡ taken_from test (if b then c ∷ of_seat q all else of_seat q all)
    by true e rest =
        let one = sum_by-cons (λ (d : Collection). if test d.pot && (d.seat == q) then d.units else 0) c all in
        let here : (if test c.pot && (c.seat == q) then c.units else 0) ≡ (if test c.pot then c.units else 0) = both_tests (test c.pot) (c.seat == q) c.units ∙ rw e refl in
        let more = sum_by-cons (λ (d : Collection). if test d.pot then d.units else 0) c (of_seat q all) in
        omega (arith, one, here, more, rest)
    by false e rest =
        let one = sum_by-cons (λ (d : Collection). if test d.pot && (d.seat == q) then d.units else 0) c all in
        let here : (if test c.pot && (c.seat == q) then c.units else 0) ≡ 0 = both_tests (test c.pot) (c.seat == q) c.units ∙ rw e refl in
        omega (arith, one, here, rest)

named_of : (count q : ℕ) (all : List Collection) → list_all (λ c. is_some (pot_named count c.pot)) all ≡ true → list_all (λ c. is_some (pot_named count c.pot)) (of_seat q all) ≡ true
unfolding of_seat
named_of count q [] named = refl
named_of count q (c ∷ all) named =
    let both = both_true (is_some (pot_named count c.pot)) (list_all (λ c. is_some (pot_named count c.pot)) all) named in
    by (c.seat == q) both.0 (named_of count q all both.1)
  where
    by : (b : Bool) → is_some (pot_named count c.pot) ≡ true → list_all (λ c. is_some (pot_named count c.pot)) (of_seat q all) ≡ true
        → list_all (λ c. is_some (pot_named count c.pot)) (if b then c ∷ of_seat q all else of_seat q all) ≡ true
    by true here rest = rw (here, rest) refl
    by false here rest = rest

-- what a seat got out of pots whose names fit, by the collections that are from each
pots_give : (s : Showing) (count k q : ℕ) (all : List Pot) → 1 ≤ q → q ≤ 10 → sum_by (λ (line : PotLine). got_by line.paid q) (pot_lines s count k all) ≡ taken_by count k (length all) (of_seat q s.collections)
pots_give s count k q [] low high = refl
pots_give s count k q (pot ∷ all) low high =
    let pay = pay_of s (Numbered count k) pot in
    let here : got_by (payments_from pay 1 10) q ≡ taken_from (names_pot count k) (of_seat q s.collections) = got_paid pay (λ r. refl) q low high ∙ got_is_taken_of (names_pot count k) q s.collections in
    let rest = pots_give s count (k + 1) q all low high in
    omega (arith, sum_by-cons (λ (line : PotLine). got_by line.paid q) (pot_line s (Numbered count k) pot) (pot_lines s count (k + 1) all), here, rest)

-- out of pots whose names don't fit nobody got anything
unfit_give : (q : ℕ) (all : List Pot) → sum_by (λ (line : PotLine). got_by line.paid q) (map unfit_line all) ≡ 0
unfit_give q [] = refl
unfit_give q (pot ∷ all) = omega (arith, sum_by-cons (λ (line : PotLine). got_by line.paid q) (unfit_line pot) (map unfit_line all), unfit_give q all)

-- so a seat got what it collected
pub got_collected : (s : Showing) (q : ℕ) → 1 ≤ q → q ≤ 10 → sum_by (λ (line : PotLine). got_by line.paid q) (settled s).pots + got_by (settled s).paid q ≡ got_from (λ pot. true) q s.collections
unfolding settled fits
got_collected s q low high = by (list_all (λ c. is_some (pot_named (length all) c.pot)) s.collections && each_taken (length all) 0 all s.collections) refl
  where
    all : List Pot
    all = pots s.paid

    by : (b : Bool) → (list_all (λ c. is_some (pot_named (length all) c.pot)) s.collections && each_taken (length all) 0 all s.collections) ≡ b
        → sum_by (λ (line : PotLine). got_by line.paid q) (settled_of b s all).pots + got_by (settled_of b s all).paid q ≡ got_from (λ pot. true) q s.collections
    by true e =
        let both = both_true (list_all (λ c. is_some (pot_named (length all) c.pot)) s.collections) (each_taken (length all) 0 all s.collections) e in
        let some = pots_give s (length all) 0 q all low high in
        let whole : taken_by (length all) 0 (length all) (of_seat q s.collections) ≡ taken (of_seat q s.collections) = taken_in_all (length all) (of_seat q s.collections) (named_of (length all) q s.collections both.0) in
        let is : got_from (λ pot. true) q s.collections ≡ taken (of_seat q s.collections) = got_is_taken_of (λ pot. true) q s.collections in
        omega (arith, some, whole, is)
    by false e =
        let none = unfit_give q all in
        let own : got_by (payments_from (hand_payment s) 1 10) q ≡ got_from (λ pot. true) q s.collections = got_paid (hand_payment s) (λ r. refl) q low high in
        omega (arith, none, own)
