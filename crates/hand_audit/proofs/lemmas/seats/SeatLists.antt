-- The list of a set's seats, in which each stands once, and lists by seat.
use Rattle.std.proofs.Common.{◌≡◌, ℕ, zero, suc, ◌+◌, ◌-◌, ◌<◌, ◌≤◌, List, [], ◌∷◌, ◌++◌, refl, ap, ◌∙◌, Bool, true, false, ◌==◌, ◌||◌, arith, sym, length}
use Rattle.std.specs.Prelude.{nat_le, nat_lt, if◌then◌else◌, slice_index_or}
use Rattle.std.specs.Int.{bit_at}
use Rattle.std.proofs.lemmas.List.Folds.{list_any-append}
use Rattle.std.proofs.lemmas.Nat.Bits.{bit_at_above}
use Rattle.card_sets.specs.PlayerSetLaws.{among-players_from, players_from-add}
use Rattle.card_sets.specs.PlayerSets.{players_from, has_player}
use Rattle.pot_layers.specs.Split.{is_among, Differ, InRange}
use Rattle.betting_replay.specs.Seats.{by_seat, places_from}
use Rattle.hand_audit.specs.Orders.{OfSeats}

differ_more : (w p n : ℕ) → Differ (players_from w (p + 1) n) → (bit : Bool) → Differ (if bit then p ∷ players_from w (p + 1) n else players_from w (p + 1) n)
differ_more w p n d true = (among-players_from w (p + 1) n p ∙ (let a : nat_le (p + 1) p ≡ false = grind arith in rw a refl), d)
differ_more w p n d false = d

pub differ_from : (w p n : ℕ) → Differ (players_from w p n)
differ_from w p zero = tt
differ_from w p (suc n) = differ_more w p n (differ_from w (p + 1) n) (bit_at w p == 1)

range_more : (w p n : ℕ) → 1 ≤ p → p + suc n ≤ 11 → InRange (players_from w (p + 1) n) → (bit : Bool) → InRange (if bit then p ∷ players_from w (p + 1) n else players_from w (p + 1) n)
range_more w p n l h r true = (l, omega arith, r)
range_more w p n l h r false = r

pub range_from : (w p n : ℕ) → 1 ≤ p → p + n ≤ 11 → InRange (players_from w p n)
range_from w p zero l h = tt
range_from w p (suc n) l h = range_more w p n l h (range_from w (p + 1) n (omega arith) (omega arith)) (bit_at w p == 1)

-- a seat that isn't in the set, and one that is
pub seats_none : (w p end : ℕ) → (bit_at w p == 1) ≡ false → p < end → players_from w p (end - p) ≡ players_from w (p + 1) (end - (p + 1))
seats_none w p end none h = let more : end - p ≡ suc (end - (p + 1)) = omega arith in rw (more, none) refl

pub seats_some : (w p end : ℕ) → (bit_at w p == 1) ≡ true → p < end → players_from w p (end - p) ≡ p ∷ players_from w (p + 1) (end - (p + 1))
seats_some w p end some h = let more : end - p ≡ suc (end - (p + 1)) = omega arith in rw (more, some) refl

pub differ_both : (xs ys : List ℕ) → Differ xs → Differ ys → ((s : ℕ) → is_among s xs ≡ true → is_among s ys ≡ false) → Differ (xs ++ ys)
differ_both [] ys dx dy apart = dy
differ_both (x ∷ xs) ys dx dy apart =
    let here : is_among x (x ∷ xs) ≡ true = (let e : (x == x) ≡ true = grind arith in rw e refl) in
    let no : is_among x (xs ++ ys) ≡ false = list_any-append (λ s. s == x) xs ys ∙ rw (dx.0, apart x here) refl in
    (no, differ_both xs ys dx.1 dy (λ s in_xs. apart s (in_tail s in_xs)))
  where
    in_tail : (s : ℕ) → is_among s xs ≡ true → is_among s (x ∷ xs) ≡ true
    in_tail s h = by (x == s)
      where
        by : (b : Bool) → (b || is_among s xs) ≡ true
        by true = refl
        by false = h

pub range_both : (xs ys : List ℕ) → InRange xs → InRange ys → InRange (xs ++ ys)
range_both [] ys rx ry = ry
range_both (x ∷ xs) ys rx ry = (rx.0, rx.1, range_both xs ys rx.2 ry)

-- a bit of a set of seats is a seat's
pub seat_of_bit : (w seat : ℕ) → OfSeats w → (bit_at w seat == 1) ≡ true → (1 ≤ seat) × (seat < 11)
seat_of_bit w seat of ee = (some, few)
  where
    set : bit_at w seat ≡ 1
    set = grind (arith, ee)

    few : seat < 11
    few = by_size (nat_lt seat 11) refl
      where
        by_size : (b : Bool) → nat_lt seat 11 ≡ b → seat < 11
        by_size true e = grind arith
        by_size false e = let far : 11 ≤ seat = grind arith in let z : bit_at w seat ≡ 0 = bit_at_above w 11 seat of.small far in absurd (omega (arith, set, z))

    some : 1 ≤ seat
    some = by_seat seat refl
      where
        by_seat : (n : ℕ) → seat ≡ n → 1 ≤ seat
        by_seat zero e = let z : bit_at w seat ≡ 0 = ap (bit_at w) e ∙ of.first in absurd (omega (arith, set, z))
        by_seat (suc n) e = omega (arith, e)

-- the seats of a set among one more
pub seats_more : (s p n : ℕ) → players_from s p (n + 1) ≡ players_from s p n ++ (if has_player s (p + n) then (p + n) ∷ [] else [])
seats_more s p n = players_from-add s p n 1

-- a list by seat is told by what it has at each
same_places : {A : Type 0} (f : ℕ → A) (p n : ℕ) (d : A) (xs : List A) → length xs ≡ n → ((i : ℕ) → i < n → slice_index_or xs i d ≡ f (p + i)) → xs ≡ places_from f p n
same_places f p zero d [] l at = refl
same_places f p zero d (x ∷ xs) l at = absurd (omega (arith, l))
same_places f p (suc n) d [] l at = absurd (omega (arith, l))
same_places f p (suc n) d (x ∷ xs) l at =
    let here : p + 0 ≡ p = omega arith in
    let first : x ≡ f p = at 0 (omega arith) ∙ ap f here in
    let rest : xs ≡ places_from f (p + 1) n = same_places f (p + 1) n d xs (omega (arith, l)) (λ i m. let next : p + suc i ≡ (p + 1) + i = omega arith in at (suc i) (omega (arith, m)) ∙ ap f next) in
    ap (λ y. y ∷ xs) first ∙ ap (λ ys. f p ∷ ys) rest

pub by_seat_is : {A : Type 0} (f : ℕ → A) (d : A) (xs : List A) → length xs ≡ 11 → ((p : ℕ) → p < 11 → slice_index_or xs p d ≡ f p) → xs ≡ by_seat f
unfolding by_seat
by_seat_is f d xs l at = same_places f 0 11 d xs l (λ i m. let z : 0 + i ≡ i = omega arith in at i m ∙ ap f (sym z))
