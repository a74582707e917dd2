-- What the payments of a pot come to is what all seats get, and are due.
use Rattle.std.proofs.Common.{◌≡◌, ℕ, zero, suc, ◌+◌, ◌≤◌, List, [], ◌∷◌, ◌++◌, refl, ap, ◌∙◌, Bool, true, false, ◌==◌, ◌||◌, arith}
use Rattle.std.specs.Prelude.{nat_lt, if◌then◌else◌}
use Rattle.std.proofs.lemmas.List.Sums.{sum_by-cons, sum_by-append}
use Rattle.pot_layers.specs.declared.paid.Share.{Share}
use Rattle.pot_layers.specs.Split.{given_in_all, shares, shares_from, sides_won, side_share, high_half, low_half}
use Rattle.hand_verdict.specs.declared.settlement.Payment.{Payment}
use Rattle.hand_laws.specs.Chips.{sum_from, over_seats}
use Rattle.hand_laws.specs.PotSums.{all_got, all_due}
use Rattle.hand_audit.specs.Settle.{due_of_seat, is_payment, payments_from}
use Rattle.hand_laws.proofs.lemmas.chips.SeatSums.{sum_same, sum_plus, sum_at, at_seat, at_seat_is, no_sum}

-- who is left out got nothing, and is due nothing
pub record IsNothing (pay : Payment) : Type 0 where
  pub got : pay.got ≡ 0
  pub due : pay.due ≡ 0

pub nothing : (pay : Payment) → is_payment pay ≡ false → IsNothing pay
nothing pay none = by (nat_lt 0 pay.got) (nat_lt 0 pay.due) refl refl none
  where
    by : (a b : Bool) → nat_lt 0 pay.got ≡ a → nat_lt 0 pay.due ≡ b → (a || b) ≡ false → IsNothing pay
    by true b ea eb h = cc
    by false true ea eb h = cc
    by false false ea eb h = record { got = grind arith; due = grind arith }

pub got_by_all : (pay : ℕ → Payment) (p n : ℕ) → all_got (payments_from pay p n) ≡ sum_from (λ q. (pay q).got) p n
got_by_all pay p zero = refl
got_by_all pay p (suc n) = by (is_payment (pay p)) refl (got_by_all pay (p + 1) n)
  where
    by : (b : Bool) → is_payment (pay p) ≡ b → all_got (payments_from pay (p + 1) n) ≡ sum_from (λ q. (pay q).got) (p + 1) n
        → all_got (if b then pay p ∷ payments_from pay (p + 1) n else payments_from pay (p + 1) n) ≡ (pay p).got + sum_from (λ q. (pay q).got) (p + 1) n
    by true e rest = omega (arith, rest, sum_by-cons (λ (x : Payment). x.got) (pay p) (payments_from pay (p + 1) n))
    by false e rest = let none = (nothing (pay p) e).got in omega (arith, rest, none)

pub due_by_all : (pay : ℕ → Payment) (p n : ℕ) → all_due (payments_from pay p n) ≡ sum_from (λ q. (pay q).due) p n
due_by_all pay p zero = refl
due_by_all pay p (suc n) = by (is_payment (pay p)) refl (due_by_all pay (p + 1) n)
  where
    by : (b : Bool) → is_payment (pay p) ≡ b → all_due (payments_from pay (p + 1) n) ≡ sum_from (λ q. (pay q).due) (p + 1) n
        → all_due (if b then pay p ∷ payments_from pay (p + 1) n else payments_from pay (p + 1) n) ≡ (pay p).due + sum_from (λ q. (pay q).due) (p + 1) n
    by true e rest = omega (arith, rest, sum_by-cons (λ (x : Payment). x.due) (pay p) (payments_from pay (p + 1) n))
    by false e rest = let none = (nothing (pay p) e).due in omega (arith, rest, none)

-- each share is that of a seat of the table
abbrev pub OfTable : List Share → Type 0
OfTable [] = Unit {0}
OfTable (share ∷ all) = (1 ≤ share.seat) × (share.seat ≤ 10) × OfTable all

of_from : (units high low : ℕ) (high_order low_order : List ℕ) (seat n : ℕ) → 1 ≤ seat → seat + n ≤ 11 → OfTable (shares_from units high low high_order low_order seat n)
of_from units high low high_order low_order seat zero l h = tt
of_from units high low high_order low_order seat (suc n) l h = by (sides_won high low seat == 0) (of_from units high low high_order low_order (seat + 1) n (omega arith) (omega arith))
  where
    share : Share
    share = record { seat = seat; units = side_share (high_half units low) high_order seat + side_share (low_half units low) low_order seat; sides = sides_won high low seat }

    by : (b : Bool) → OfTable (shares_from units high low high_order low_order (seat + 1) n) → OfTable (if b then shares_from units high low high_order low_order (seat + 1) n else share ∷ shares_from units high low high_order low_order (seat + 1) n)
    by true rest = rest
    by false rest = (l, omega arith, rest)

pub of_shares : (units high low : ℕ) (high_order low_order : List ℕ) → OfTable (shares units high low high_order low_order)
unfolding shares
of_shares units high low high_order low_order = of_from units high low high_order low_order 1 10 (omega arith) (omega arith)

-- so of some shares with others after them, and what they give together
pub of_both : (some others : List Share) → OfTable some → OfTable others → OfTable (some ++ others)
of_both [] others a b = b
of_both (share ∷ some) others a b = (a.0, a.1, of_both some others a.2 b)

pub given_both : (some others : List Share) → given_in_all (some ++ others) ≡ given_in_all some + given_in_all others
given_both some others = sum_by-append (λ (x : Share). x.units) some others

-- what all seats are given is all that is given
due_cons : (share : Share) (all : List Share) (q : ℕ) → due_of_seat q (share ∷ all) ≡ at_seat share.seat share.units q + due_of_seat q all
due_cons share all q = sum_by-cons (λ (x : Share). if x.seat == q then x.units else 0) share all ∙ ap (λ n. n + due_of_seat q all) (at_seat_is share.seat share.units q)

pub due_is_given : (all : List Share) → OfTable all → over_seats (λ p. due_of_seat p all) ≡ given_in_all all
due_is_given [] a = no_sum 1 10
due_is_given (share ∷ all) a =
    let split : over_seats (λ p. due_of_seat p (share ∷ all)) ≡ over_seats (at_seat share.seat share.units) + over_seats (λ p. due_of_seat p all) =
    sum_same (λ p. due_of_seat p (share ∷ all)) (λ p. at_seat share.seat share.units p + due_of_seat p all) 1 10 (omega arith) (λ q l. due_cons share all q)
    ∙ sum_plus (at_seat share.seat share.units) (λ p. due_of_seat p all) 1 10 in
    let low = a.0 in
    let high = a.1 in
    let one : over_seats (at_seat share.seat share.units) ≡ share.units = sum_at share.seat share.units 1 10 low (omega (arith, high)) in
    let rest = due_is_given all a.2 in
    omega (arith, split, one, rest, sum_by-cons (λ (x : Share). x.units) share all)
