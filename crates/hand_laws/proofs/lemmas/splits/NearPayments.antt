-- No payment within the sides that its seat wins is refused: `law_near_payments_are_accepted`.
use Rattle.std.proofs.Common.{◌≡◌, ℕ, zero, suc, ◌+◌, ◌<◌, ◌≤◌, Bool, true, false, List, [], ◌∷◌, length, refl, arith, subst}
use Rattle.std.specs.Prelude.{Option, Some, None, nat_lt, slice_get}
use Rattle.pot_layers.specs.declared.paid.Pot.{Pot}
use Rattle.pot_layers.specs.Pots.{pots}
use Rattle.hand_verdict.specs.declared.settlement.Payment.{Payment}
use Rattle.hand_audit.specs.PotNames.{fits}
use Rattle.hand_audit.specs.declared.pot_names.Source.TheVariants.{Numbered}
use Rattle.hand_audit.specs.Settle.{Showing, beyond, beyond_from, beyond_if, beyond_in, beyond_of, distance, pay_of, shares_of_pot, sides_of_seat}
use Rattle.hand_laws.specs.SideLaws.{IsNear, NearIsAccepted}

all_within : (f : ℕ → Payment) (t : ℕ → ℕ) (from n : ℕ) → ((p : ℕ) → from ≤ p → p < from + n → distance (f p).got (f p).due ≤ t p) → beyond_from f t from n ≡ None
all_within f t from zero near = refl
all_within f t from (suc n) near =
    let few : distance (f from).got (f from).due ≤ t from = near from (omega arith) (omega arith) in
    let kept : nat_lt (t from) (distance (f from).got (f from).due) ≡ false = grind (arith, few) in
    rw kept (all_within f t (from + 1) n (λ p low far. near p (omega (arith, low)) (omega (arith, far))))

none_in : (s : Showing) (count k : ℕ) (all : List Pot) → ((i : ℕ) (pot : Pot) → slice_get all i ≡ Some pot → beyond_of s (Numbered count (k + i)) pot ≡ None) → beyond_in s count k all ≡ None
none_in s count k [] each = refl
none_in s count k (pot ∷ more) each =
    let at : k + 0 ≡ k = omega arith in
    let first : beyond_of s (Numbered count k) pot ≡ None = subst (λ (n : ℕ). beyond_of s (Numbered count n) pot ≡ None) at (each zero pot refl) in
    rw first (none_in s count (k + 1) more (λ i next is. (let one : k + suc i ≡ (k + 1) + i = omega arith in subst (λ (n : ℕ). beyond_of s (Numbered count n) next ≡ None) one (each (suc i) next is))))

pot_within : (s : Showing) (number : ℕ) (pot : Pot) → IsNear s number pot → beyond_of s (Numbered (length (pots s.paid)) number) pot ≡ None
pot_within s number pot near =
    let source = Numbered (length (pots s.paid)) number in
    all_within (pay_of s source pot) (λ p. sides_of_seat p (shares_of_pot s source pot)) 1 10 (λ p low far. near p low (omega (arith, far)))

by_fit : (b : Bool) (s : Showing) → ((number : ℕ) (pot : Pot) → slice_get (pots s.paid) number ≡ Some pot → IsNear s number pot) → beyond_if b s (pots s.paid) ≡ None
by_fit false s near = refl
by_fit true s near = none_in s (length (pots s.paid)) 0 (pots s.paid) (λ i pot is. (let at : i ≡ 0 + i = omega arith in
    subst (λ (n : ℕ). beyond_of s (Numbered (length (pots s.paid)) n) pot ≡ None) at (pot_within s i pot (near i pot is))))

pub near_is_accepted : NearIsAccepted
unfolding beyond
near_is_accepted s near = by_fit (fits (pots s.paid) s.collections) s near
