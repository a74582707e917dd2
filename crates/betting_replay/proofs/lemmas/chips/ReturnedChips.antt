-- What comes back of a bet is within what was put in.
use Rattle.std.proofs.Common.{◌≡◌, ℕ, zero, suc, ◌+◌, ◌-◌, ◌≤◌, List, refl, sym, ap, Bool, true, false, ◌==◌, ◌&&◌, ◌||◌, arith, subst}
use Rattle.std.specs.Prelude.{Option, Some, None, if◌then◌else◌}
use Rattle.pot_layers.specs.declared.paid.Paid.{Paid}
use Rattle.pot_layers.specs.Uncalled.{is_reached, rival, alone_in, uncalled}
use Rattle.betting_replay.specs.Accounts.{paid_by}
use Rattle.betting_replay.specs.Returns.{live_by, hand_sums, street_sums, is_return, return_fits}
use Rattle.betting_replay.specs.Seats.{places_from}
use Rattle.betting_replay.specs.Table.{ReplayState, chips_at}

-- where each place has its own number as its seat, no more is uncalled of a seat than it has put in
alone_within : (f : ℕ → Paid) → ((p : ℕ) → (f p).seat ≡ p) → (all : List Paid) (a n : ℕ) (back : ℕ × ℕ) → alone_in all (places_from f a n) ≡ Some back → back.1 ≤ (f back.0).live
alone_within f own all a zero back h = cc
alone_within f own all a (suc n) back h = by (is_reached all (f a).seat (f a).live) h (alone_within f own all (a + 1) n back)
  where
    by : (b : Bool) → (if b then alone_in all (places_from f (a + 1) n) else Some ((f a).seat, (f a).live - rival all (f a).seat)) ≡ Some back → (alone_in all (places_from f (a + 1) n) ≡ Some back → back.1 ≤ (f back.0).live) → back.1 ≤ (f back.0).live
    by false h go =
        let is : ((f a).seat, (f a).live - rival all (f a).seat) ≡ back = cc in
        let P : ℕ × ℕ → Type 0 = λ b. b.1 ≤ (f b.0).live in
        let same : (f (f a).seat).live ≡ (f a).live = ap (λ q. (f q).live) (own a) in
        subst P is (omega (arith, same))
    by true h go = go h

equal : (a b : ℕ) → (a == b) ≡ true → a ≡ b
equal a b e = grind arith

fits_within : (f : ℕ → Paid) → ((p : ℕ) → (f p).seat ≡ p) → (o : Option (ℕ × ℕ)) → o ≡ uncalled (places_from f 1 10) → (seat units : ℕ) → is_return o seat units ≡ true → units ≤ (f seat).live
fits_within f own None is seat units h = cc
fits_within f own (Some back) is seat units h = by (back.0 == seat) refl (back.1 == units) refl h (alone_within f own (places_from f 1 10) 1 10 back (sym is))
  where
    by : (b : Bool) → (back.0 == seat) ≡ b → (c : Bool) → (back.1 == units) ≡ c → (b && c) ≡ true → back.1 ≤ (f back.0).live → units ≤ (f seat).live
    by true e true d h low = (let s : back.0 ≡ seat = equal _ _ e in let u : back.1 ≡ units = equal _ _ d in let same : (f back.0).live ≡ (f seat).live = ap (λ q. (f q).live) s in omega (arith, u, same, low))
    by true e false d h low = cc
    by false e c d h low = cc

-- a return is within what its seat has paid
pub return_within : (t : ReplayState) (seat units : ℕ) → return_fits t seat units ≡ true → (chips_at t seat).live ≤ (chips_at t seat).paid → units ≤ (chips_at t seat).paid
unfolding return_fits hand_sums street_sums live_by paid_by
return_within t seat units fits low = by (is_return (uncalled (hand_sums t)) seat units) refl (is_return (uncalled (street_sums t)) seat units) refl fits
  where
    by : (a : Bool) → is_return (uncalled (hand_sums t)) seat units ≡ a → (b : Bool) → is_return (uncalled (street_sums t)) seat units ≡ b → (a || b) ≡ true → units ≤ (chips_at t seat).paid
    by true e b d h = fits_within (paid_by t) (λ p. refl) (uncalled (hand_sums t)) refl seat units e
    by false e true d h = (let within : units ≤ (chips_at t seat).live = fits_within (live_by t) (λ p. refl) (uncalled (street_sums t)) refl seat units d in omega (arith, within, low))
    by false e false d h = cc
