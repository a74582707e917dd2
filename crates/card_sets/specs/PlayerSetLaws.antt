-- How the number of a set of players relates to its test and its lists.
use Rattle.std.proofs.Common.{◌≡◌, ℕ, zero, suc, ◌+◌, ◌-◌, ◌*◌, ◌/◌, ◌%◌, ◌<◌, ◌≤◌, ◌^◌, List, [], ◌∷◌, ◌++◌, refl, sym, ap, ◌∙◌, Bool, true, false, ◌==◌, ◌&&◌, ◌||◌, ◌⊎◌, not, Some, arith, subst, length, append-nil, inl, inr}
use Rattle.std.specs.Prelude.{bit_and, bit_or, count_ones, min, nat_le, nat_lt, if◌then◌else◌, slice_get}
use Rattle.std.specs.Int.{bit_at, w16, trailing_zeros}
use Rattle.std.specs.List.{list_any}
use Rattle.std.proofs.lemmas.Bool.{cases_eq, cases_lt}
use Rattle.std.proofs.lemmas.Nat.{and_le_l, and_le_r, or_lt, one_shl, pow_below, div-mul-add, pow-add, and_mask, mod_below}
use Rattle.std.proofs.lemmas.Nat.Bits.{bit_at-lt, bit_at-zero, bit_at_above, bit_at_and, bit_at_ones, bit_at_mask_inside, bit_at_mask_above, bit_at_set_same, bit_at_set_other, bit_at_clear_same, bit_at_clear_other, bit_at-trailing_zeros, same_from_bits_below}
use Rattle.std.proofs.Math.Nat.{add-mul-div_left, add-mul-mod_self_left, mod-eq_of_lt}
use Rattle.card_sets.specs.Bits.{bits-below, length-below}
use Rattle.card_sets.specs.PlayerSets.{has_player, players_where, with_player, without_player, players_from, players_in, seats_in, hands_below, set_of_players, AreBelow}

-- two tests that agree below n make the same set
pub players_where-same : (f g : ℕ → Bool) (n : ℕ) → ((p : ℕ) → p < n → f p ≡ g p) → players_where f n ≡ players_where g n
players_where-same f g zero h = refl
players_where-same f g (suc n) h =
    let rest : players_where f n ≡ players_where g n = players_where-same f g n (λ p l. h p (omega (arith, l))) in
    let here : f n ≡ g n = h n (omega arith) in
    rw (rest, here) refl

small_more : (b : Bool) (n x : ℕ) → x < 2 ^ n → x + (if b then 2 ^ n else 0) < 2 ^ suc n
small_more true n x h = omega arith
small_more false n x h = omega arith

pub players_where-small : (f : ℕ → Bool) (n : ℕ) → players_where f n < 2 ^ n
players_where-small f zero = omega arith
players_where-small f (suc n) = small_more (f n) n (players_where f n) (players_where-small f n)

-- a set made from a test has exactly the players that pass it
high_bit : (n x : ℕ) → x < 2 ^ n → bit_at (x + 2 ^ n) n ≡ 1
high_bit n x h =
    let d : (1 * 2 ^ n + x) / 2 ^ n ≡ 1 = div-mul-add 1 (2 ^ n) x h in
    let e : x + 2 ^ n ≡ 1 * 2 ^ n + x = omega arith in
    rw (e, d) refl

pow_some : (p : ℕ) → 0 < 2 ^ p
pow_some zero = omega arith
pow_some (suc p) = let ih : 0 < 2 ^ p = pow_some p in omega (arith, ih)

low_bit : (p m x : ℕ) → bit_at (x + 2 ^ (p + suc m)) p ≡ bit_at x p
low_bit p m x =
    let two : 2 ^ suc m ≡ 2 * 2 ^ m = omega arith in
    let e : 2 ^ (p + suc m) ≡ 2 ^ p * (2 * 2 ^ m) = pow-add 2 p (suc m) ∙ ap (λ y. 2 ^ p * y) two in
    let pos : 0 < 2 ^ p = pow_some p in
    let d : (x + 2 ^ p * (2 * 2 ^ m)) / 2 ^ p ≡ x / 2 ^ p + 2 * 2 ^ m = add-mul-div_left x (2 * 2 ^ m) pos in
    rw (e, d) (add-mul-mod_self_left (x / 2 ^ p) 2 (2 ^ m))

bit_more : (b : Bool) (n p x : ℕ) → x < 2 ^ n → p < n → bit_at (x + (if b then 2 ^ n else 0)) p ≡ bit_at x p
bit_more true n p x h l = let e : n ≡ p + suc (n - suc p) = omega arith in ap (λ k. bit_at (x + 2 ^ k) p) e ∙ low_bit p (n - suc p) x
bit_more false n p x h l = let e : x + 0 ≡ x = omega arith in rw e refl

bit_here : (b : Bool) (n x : ℕ) → x < 2 ^ n → (bit_at (x + (if b then 2 ^ n else 0)) n == 1) ≡ b
bit_here true n x h = rw (high_bit n x h) refl
bit_here false n x h = let e : x + 0 ≡ x = omega arith in rw (e, bit_at_above x n n h (omega arith)) refl

pub has_player-where : (f : ℕ → Bool) (n p : ℕ) → p < n → has_player (players_where f n) p ≡ f p
has_player-where f zero p l = absurd (omega arith)
has_player-where f (suc n) p l = elim (cases_eq p n) [
  | inl e ↦ ap (λ q. has_player (players_where f n + (if f n then 2 ^ n else 0)) q) e ∙ bit_here (f n) n (players_where f n) (players_where-small f n) ∙ ap f (sym e)
  | inr ne ↦ ap (λ b. b == 1) (bit_more (f n) n p (players_where f n) (players_where-small f n) (omega arith)) ∙ has_player-where f n p (omega arith)
]

-- a set of n bits has no player from n on
pub has_player-above : (set n p : ℕ) → set < 2 ^ n → n ≤ p → has_player set p ≡ false
has_player-above set n p small h = rw (bit_at_above set n p small h) refl

-- two sets of n bits with the same players are the same
bit_bool : (x y : ℕ) → x < 2 → y < 2 → (x == 1) ≡ (y == 1) → x ≡ y
bit_bool zero zero h i e = refl
bit_bool (suc zero) (suc zero) h i e = refl
bit_bool zero (suc zero) h i e = cc
bit_bool (suc zero) zero h i e = cc
bit_bool (suc (suc x)) y h i e = absurd (omega arith)
bit_bool x (suc (suc y)) h i e = absurd (omega arith)

pub same_players : (n a b : ℕ) → a < 2 ^ n → b < 2 ^ n → ((p : ℕ) → p < n → has_player a p ≡ has_player b p) → a ≡ b
same_players n a b small least h = same_from_bits_below n a b small least (λ p l. bit_bool (bit_at a p) (bit_at b p) (bit_at-lt a p) (bit_at-lt b p) (h p l))

-- a set equals the set of the players that it has
pub players_where-has : (set n : ℕ) → set < 2 ^ n → players_where (has_player set) n ≡ set
players_where-has set n small = same_players n (players_where (has_player set) n) set (players_where-small (has_player set) n) small (λ p l. has_player-where (has_player set) n p l)

-- a set of sixteen bits that has exactly the players that pass a test
pub set_where : (f : ℕ → Bool) (set : ℕ) → set < 2 ^ 16 → ((p : ℕ) → p < 16 → has_player set p ≡ f p) → set ≡ players_where f 16
set_where f set small h = sym (players_where-has set 16 small) ∙ players_where-same (has_player set) f 16 h

pow_grows : (x y : ℕ) → 0 < y → x ≤ x * y
pow_grows x zero h = absurd (omega arith)
pow_grows x (suc y) h = omega arith

pow_le : (a b : ℕ) → a ≤ b → 2 ^ a ≤ 2 ^ b
pow_le a b h =
    let e : b ≡ a + (b - a) = omega arith in
    let split : 2 ^ (a + (b - a)) ≡ 2 ^ a * 2 ^ (b - a) = pow-add 2 a (b - a) in
    let grown : 2 ^ a ≤ 2 ^ a * 2 ^ (b - a) = pow_grows (2 ^ a) (2 ^ (b - a)) (pow_some (b - a)) in
    rw (e, split) grown

-- if the next player passes the test, the set has that player too
pub with_player-next : (f : ℕ → Bool) (n : ℕ) → n < 16 → f n ≡ true → with_player (players_where f n) n ≡ players_where f (n + 1)
unfolding with_player
with_player-next f n l pass =
    let up : n + 1 ≡ suc n = omega arith in
    let room : 2 ^ suc n ≤ 2 ^ 16 = pow_le (suc n) 16 (omega arith) in
    let small : players_where f (suc n) < 2 ^ 16 = (let s : players_where f (suc n) < 2 ^ suc n = players_where-small f (suc n) in omega (arith, s, room)) in
    rw up (sym (set_where (λ p. (p == n) || has_player (players_where f n) p) (players_where f (suc n)) small each))
  where
    each : (p : ℕ) → p < 16 → has_player (players_where f (suc n)) p ≡ ((p == n) || has_player (players_where f n) p)
    each p m = elim (cases_eq p n) [
      | inl e ↦ (let t : (p == n) ≡ true = grind arith in rw t (ap (has_player (players_where f (suc n))) e ∙ has_player-where f (suc n) n (omega arith) ∙ pass))
      | inr ne ↦ (let t : (p == n) ≡ false = grind arith in rw t (elim (cases_lt p n) [
        | inl b ↦ has_player-where f (suc n) p (omega arith) ∙ sym (has_player-where f n p b)
        | inr a ↦ has_player-above (players_where f (suc n)) (suc n) p (players_where-small f (suc n)) (omega arith) ∙ sym (has_player-above (players_where f n) n p (players_where-small f n) a)
      ]))
    ]

-- if the next player fails the test, the set stays
pub players_where-skip : (f : ℕ → Bool) (n : ℕ) → f n ≡ false → players_where f n ≡ players_where f (n + 1)
players_where-skip f n fail =
    let up : n + 1 ≡ suc n = omega arith in
    let none : players_where f n + 0 ≡ players_where f n = omega arith in
    rw (up, fail) (sym none)

-- the bit that adds a player
pub with_bit : (set p : ℕ) → set < 2 ^ 16 → p < 16 → bit_or set (1 * 2 ^ p % 2 ^ 16) ≡ with_player set p
unfolding with_player
with_bit set p small l =
    set_where (λ q. (q == p) || has_player set q) (bit_or set (1 * 2 ^ p % 2 ^ 16)) (or_lt 16 set _ small (rw (one_shl p 16 (omega arith)) (pow_below p 16 l))) each
  where
    each : (q : ℕ) → q < 16 → has_player (bit_or set (1 * 2 ^ p % 2 ^ 16)) q ≡ ((q == p) || has_player set q)
    each q m = elim (cases_eq q p) [
      | inl e ↦ (let t : (q == p) ≡ true = grind arith in rw (t, e, bit_at_set_same w16 set p l) refl)
      | inr ne ↦ (let f : (q == p) ≡ false = grind arith in rw (f, bit_at_set_other w16 set p l q ne) refl)
    ]

-- the lists of players: of sets that agree, in two parts, and of the empty set
pub players_from-same : (a b p n : ℕ) → ((q : ℕ) → p ≤ q → q < p + n → has_player a q ≡ has_player b q) → players_from a p n ≡ players_from b p n
players_from-same a b p zero h = refl
players_from-same a b p (suc n) h =
    let here : has_player a p ≡ has_player b p = h p (omega arith) (omega arith) in
    let rest : players_from a (p + 1) n ≡ players_from b (p + 1) n = players_from-same a b (p + 1) n (λ q l m. h q (omega arith) (omega arith)) in
    rw (here, rest) refl

pub players_from-add : (set p m n : ℕ) → players_from set p (m + n) ≡ players_from set p m ++ players_from set (p + m) n
players_from-add set p zero n =
    let a : 0 + n ≡ n = omega arith in
    let b : p + 0 ≡ p = omega arith in
    rw (a, b) refl
players_from-add set p (suc m) n =
    let a : suc m + n ≡ suc (m + n) = omega arith in
    let b : p + suc m ≡ (p + 1) + m = omega arith in
    rw (a, b) (both (has_player set p) (players_from-add set (p + 1) m n))
  where
    both : (b : Bool) → players_from set (p + 1) (m + n) ≡ players_from set (p + 1) m ++ players_from set ((p + 1) + m) n → (if b then p ∷ players_from set (p + 1) (m + n) else players_from set (p + 1) (m + n)) ≡ (if b then p ∷ players_from set (p + 1) m else players_from set (p + 1) m) ++ players_from set ((p + 1) + m) n
    both true rest = ap (λ xs. p ∷ xs) rest
    both false rest = rest

pub players_from-none : (set p n : ℕ) → ((q : ℕ) → p ≤ q → q < p + n → has_player set q ≡ false) → players_from set p n ≡ []
players_from-none set p zero h = refl
players_from-none set p (suc n) h =
    let here : has_player set p ≡ false = h p (omega arith) (omega arith) in
    rw here (players_from-none set (p + 1) n (λ q l m. h q (omega arith) (omega arith)))

-- the hands below n are the players from 0 on
pub hands_below-from : (set n : ℕ) → hands_below set n ≡ players_from set 0 n
hands_below-from set zero = refl
hands_below-from set (suc n) =
    let up : suc n ≡ n + 1 = omega arith in
    let at : 0 + n ≡ n = omega arith in
    rw (hands_below-from set n) (sym (ap (players_from set 0) up ∙ players_from-add set 0 n 1 ∙ rw at refl))

-- the bit that removes a player
pub without_bit : (set p : ℕ) → set < 2 ^ 16 → p < 16 → bit_and set (65535 - 1 * 2 ^ p % 2 ^ 16) ≡ without_player set p
unfolding without_player
without_bit set p small l =
    let least : bit_and set (65535 - 1 * 2 ^ p % 2 ^ 16) ≤ set = and_le_l set (65535 - 1 * 2 ^ p % 2 ^ 16) in
    set_where (λ q. not (q == p) && has_player set q) (bit_and set (65535 - 1 * 2 ^ p % 2 ^ 16)) (omega (arith, least, small)) each
  where
    each : (q : ℕ) → q < 16 → has_player (bit_and set (65535 - 1 * 2 ^ p % 2 ^ 16)) q ≡ (not (q == p) && has_player set q)
    each q m = elim (cases_eq q p) [
      | inl e ↦ (let t : (q == p) ≡ true = grind arith in rw (t, e, bit_at_clear_same w16 set p l) refl)
      | inr ne ↦ (let f : (q == p) ≡ false = grind arith in rw (f, bit_at_clear_other w16 set p l q m ne) refl)
    ]

-- the players of a set without one of them
pub has_player-without : (set p q : ℕ) → q < 16 → has_player (without_player set p) q ≡ (not (q == p) && has_player set q)
unfolding without_player
has_player-without set p q l = has_player-where (λ r. not (r == p) && has_player set r) 16 q l

pub has_player-with : (set p q : ℕ) → q < 16 → has_player (with_player set p) q ≡ ((q == p) || has_player set q)
unfolding with_player
has_player-with set p q l = has_player-where (λ r. (r == p) || has_player set r) 16 q l

-- the set 0 has no player, and the first player of any other set is that of its lowest bit
pub players_in-none : (set : ℕ) → set ≡ 0 → players_in set ≡ []
unfolding players_in
players_in-none set e = rw e (players_from-none 0 0 16 (λ q l m. rw (bit_at-zero q) refl))

and-false : (b : Bool) → (b && false) ≡ false
and-false true = refl
and-false false = refl

-- the players of a set are the lowest one and then the players without that one
players_in-lowest : (set t : ℕ) → t < 16 → has_player set t ≡ true → ((i : ℕ) → i < t → has_player set i ≡ false) → players_in set ≡ t ∷ players_in (without_player set t)
unfolding players_in
players_in-lowest set t l here none =
    let size : 16 ≡ t + suc (15 - t) = omega arith in
    let over : 16 ≡ (t + 1) + (15 - t) = omega arith in
    let at : 0 + t ≡ t = omega arith in
    let next : 0 + (t + 1) ≡ t + 1 = omega arith in
    let front : players_from set 0 t ≡ [] = players_from-none set 0 t (λ q a b. none q (omega arith)) in
    let gone : players_from (without_player set t) 0 (t + 1) ≡ [] = players_from-none (without_player set t) 0 (t + 1) (λ q a b. out q (omega arith)) in
    let rest : players_from (without_player set t) (t + 1) (15 - t) ≡ players_from set (t + 1) (15 - t) = players_from-same (without_player set t) set (t + 1) (15 - t) (λ q a b. kept q (omega arith) (omega arith)) in
    let first : players_from set t (suc (15 - t)) ≡ t ∷ players_from set (t + 1) (15 - t) = rw here refl in
    let all : players_from set 0 16 ≡ t ∷ players_from set (t + 1) (15 - t) = ap (players_from set 0) size ∙ players_from-add set 0 t (suc (15 - t)) ∙ rw (front, at) first in
    let others : players_from (without_player set t) 0 16 ≡ players_from set (t + 1) (15 - t) = ap (players_from (without_player set t) 0) over ∙ players_from-add (without_player set t) 0 (t + 1) (15 - t) ∙ rw (gone, next) rest in
    all ∙ ap (λ xs. t ∷ xs) (sym others)
  where
    out : (q : ℕ) → q < t + 1 → has_player (without_player set t) q ≡ false
    out q m = has_player-without set t q (omega arith) ∙ elim (cases_eq q t) [
      | inl e ↦ (let same : (q == t) ≡ true = grind arith in rw same refl)
      | inr ne ↦ rw (none q (omega arith)) (and-false (not (q == t)))
    ]

    kept : (q : ℕ) → t < q → q < 16 → has_player (without_player set t) q ≡ has_player set q
    kept q a b = has_player-without set t q b ∙ (let other : (q == t) ≡ false = grind arith in rw other refl)

pub lowest_player : (set : ℕ) → 0 < set → set < 2 ^ 16 → (trailing_zeros w16 set < 16) × (players_in set ≡ trailing_zeros w16 set ∷ players_in (without_player set (trailing_zeros w16 set)))
lowest_player set some small =
    let low = bit_at-trailing_zeros w16 set some small in
    (low.0, players_in-lowest set (trailing_zeros w16 set) low.0 (rw low.1 refl) (λ i l. rw (low.2 i l) refl))

-- the first player and the others
pub players_in-first : (set p : ℕ) → set < 2 ^ 16 → slice_get (players_in set) 0 ≡ Some p → players_in set ≡ p ∷ players_in (without_player set p)
players_in-first set p small e = elim (cases_eq set 0) [
  | inl none ↦ absurd (no_first (players_in set) (players_in-none set none) e)
  | inr some ↦ one (trailing_zeros w16 set) (lowest_player set (omega arith) small).1
]
  where
    no_first : (xs : List ℕ) → xs ≡ [] → slice_get xs 0 ≡ Some p → ⊥
    no_first [] h i = cc
    no_first (x ∷ xs) h i = cc

    first_is : (xs ys : List ℕ) (t : ℕ) → xs ≡ t ∷ ys → slice_get xs 0 ≡ Some p → t ≡ p
    first_is [] ys t h i = cc
    first_is (x ∷ xs) ys t h i = cc

    one : (t : ℕ) → players_in set ≡ t ∷ players_in (without_player set t) → players_in set ≡ p ∷ players_in (without_player set p)
    one t all = (let same : t ≡ p = first_is (players_in set) (players_in (without_player set t)) t all e in all ∙ rw same refl)

-- the number of players is the number of ones
pub length-players_in : (set : ℕ) → set < 2 ^ 16 → length (players_in set) ≡ count_ones set
unfolding players_in
length-players_in set small =
    let same : set % 2 ^ 16 ≡ set = omega arith in
    ap length (sym (hands_below-from set 16)) ∙ length-below set 16 ∙ ap count_ones same

-- the set of the players of a set
pub set_of_players-below : (set n : ℕ) → set < 2 ^ n → set_of_players (hands_below set n) ≡ set
set_of_players-below set n small = let same : set % 2 ^ n ≡ set = mod-eq_of_lt small in bits-below set n ∙ same

pub set_of_players-in : (set : ℕ) → set < 2 ^ 16 → set_of_players (players_in set) ≡ set
unfolding players_in
set_of_players-in set small = ap set_of_players (sym (hands_below-from set 16)) ∙ set_of_players-below set 16 small

-- the seats of a set, and the hands below a number
seat_mask : (p : ℕ) → bit_at 2046 p ≡ (if nat_lt 0 p && nat_lt p 11 then 1 else 0)
seat_mask p = elim (cases_eq p 0) [
  | inl e ↦ rw e refl
  | inr ne ↦ (let some : nat_lt 0 p ≡ true = grind arith in elim (cases_lt p 11) [
    | inl l ↦ (let few : nat_lt p 11 ≡ true = grind arith in rw (some, few) (bit_at_mask_inside 1 11 p (omega arith) l))
    | inr a ↦ (let many : nat_lt p 11 ≡ false = grind arith in rw (some, many) (bit_at_mask_above 1 11 p a))
  ])
]

has_both : (x y : ℕ) (b : Bool) → x < 2 → y ≡ (if b then 1 else 0) → (min x y == 1) ≡ (b && (x == 1))
has_both zero y true l e = rw e refl
has_both (suc zero) y true l e = rw e refl
has_both (suc (suc x)) y true l e = absurd (omega arith)
has_both zero y false l e = rw e refl
has_both (suc zero) y false l e = rw e refl
has_both (suc (suc x)) y false l e = absurd (omega arith)

has_seat : (set p : ℕ) → has_player (bit_and set 2046) p ≡ (nat_lt 0 p && nat_lt p 11 && has_player set p)
has_seat set p = rw (bit_at_and set 2046 p) (has_both (bit_at set p) (bit_at 2046 p) (nat_lt 0 p && nat_lt p 11) (bit_at-lt set p) (seat_mask p))

pub seats_where : (set : ℕ) → bit_and set 2046 ≡ players_where (λ p. nat_lt 0 p && has_player set p) 11
seats_where set =
    let least : bit_and set 2046 ≤ 2046 = and_le_r set 2046 in
    same_players 11 (bit_and set 2046) (players_where (λ p. nat_lt 0 p && has_player set p) 11) (omega (arith, least)) (players_where-small (λ p. nat_lt 0 p && has_player set p) 11) each
  where
    middle : (a b : Bool) → (a && true && b) ≡ (a && b)
    middle true b = refl
    middle false b = refl

    each : (p : ℕ) → p < 11 → has_player (bit_and set 2046) p ≡ has_player (players_where (λ q. nat_lt 0 q && has_player set q) 11) p
    each p l =
        let few : nat_lt p 11 ≡ true = grind arith in
        has_seat set p ∙ rw few (middle (nat_lt 0 p) (has_player set p)) ∙ sym (has_player-where (λ q. nat_lt 0 q && has_player set q) 11 p l)

pub players_in-seats : (set : ℕ) → players_in (bit_and set 2046) ≡ seats_in set
unfolding players_in
players_in-seats set =
    let low : players_from (bit_and set 2046) 0 1 ≡ [] = players_from-none (bit_and set 2046) 0 1 (λ q l m. let e : nat_lt 0 q ≡ false = grind arith in has_seat set q ∙ rw e refl) in
    let high : players_from (bit_and set 2046) 11 5 ≡ [] = players_from-none (bit_and set 2046) 11 5 (λ q l m. let e : nat_lt q 11 ≡ false = grind arith in has_seat set q ∙ rw e (fails (nat_lt 0 q) (has_player set q))) in
    let seats : players_from (bit_and set 2046) 1 10 ≡ seats_in set = players_from-same (bit_and set 2046) set 1 10 (λ q l m. let a : nat_lt 0 q ≡ true = grind arith in let b : nat_lt q 11 ≡ true = grind arith in has_seat set q ∙ rw (a, b) refl) in
    let parts : players_from (bit_and set 2046) 0 16 ≡ players_from (bit_and set 2046) 0 1 ++ (players_from (bit_and set 2046) 1 10 ++ players_from (bit_and set 2046) 11 5) =
    players_from-add (bit_and set 2046) 0 1 15 ∙ ap (λ xs. players_from (bit_and set 2046) 0 1 ++ xs) (players_from-add (bit_and set 2046) 1 10 5) in
    parts ∙ rw (low, high, seats) (append-nil (seats_in set))
  where
    fails : (a b : Bool) → (a && false && b) ≡ false
    fails true b = refl
    fails false b = refl

low_mask : (set n : ℕ) → bit_and set (2 ^ n - 1) ≡ set % 2 ^ n
low_mask set n = and_mask set n

pub below_bits : (set n : ℕ) → n < 16 → bit_and set (1 * 2 ^ n % 65536 - 1) ≡ set % 2 ^ n
below_bits set n l =
    let shifted : 1 * 2 ^ n % 65536 ≡ 2 ^ n = one_shl n 16 (omega arith) in
    rw shifted (low_mask set n)

lesser : (x : ℕ) → x < 2 → (min x 1 == 1) ≡ (x == 1)
lesser zero h = refl
lesser (suc zero) h = refl
lesser (suc (suc x)) h = absurd (omega arith)

pub players_in-below : (set n : ℕ) → n < 16 → players_in (set % 2 ^ n) ≡ hands_below set n
unfolding players_in
players_in-below set n l =
    let size : 16 ≡ n + (16 - n) = omega arith in
    let at : 0 + n ≡ n = omega arith in
    let pos : 0 < 2 ^ n = pow_some n in
    let small : set % 2 ^ n < 2 ^ n = mod_below set (2 ^ n) pos in
    let front : players_from (set % 2 ^ n) 0 n ≡ players_from set 0 n = players_from-same (set % 2 ^ n) set 0 n (λ q a b. low q (omega arith)) in
    let back : players_from (set % 2 ^ n) n (16 - n) ≡ [] = players_from-none (set % 2 ^ n) n (16 - n) (λ q a b. has_player-above (set % 2 ^ n) n q small a) in
    ap (players_from (set % 2 ^ n) 0) size ∙ players_from-add (set % 2 ^ n) 0 n (16 - n) ∙ rw (at, back, front) (append-nil (players_from set 0 n)) ∙ sym (hands_below-from set n)
  where
    low : (q : ℕ) → q < n → has_player (set % 2 ^ n) q ≡ has_player set q
    low q a = (let whole : bit_and set (2 ^ n - 1) ≡ set % 2 ^ n = low_mask set n in ap (λ k. has_player k q) (sym whole) ∙ rw (bit_at_and set (2 ^ n - 1) q, bit_at_ones n q a) (lesser (bit_at set q) (bit_at-lt set q)))

-- the players of a set of hands alone
pub players_in-hands : (set n : ℕ) → n < 16 → set < 2 ^ n → players_in set ≡ hands_below set n
players_in-hands set n l small = (let same : set % 2 ^ n ≡ set = mod-eq_of_lt small in ap players_in (sym same) ∙ players_in-below set n l)

-- the numbers in a list are below its end
pub AreBelow-players_from : (set p n : ℕ) → AreBelow (p + n) (players_from set p n)
AreBelow-players_from set p zero = tt
AreBelow-players_from set p (suc n) =
    let up : (p + 1) + n ≡ p + suc n = omega arith in
    let rest : AreBelow (p + suc n) (players_from set (p + 1) n) = rw (← up) (AreBelow-players_from set (p + 1) n) in
    both (has_player set p) rest
  where
    both : (b : Bool) → AreBelow (p + suc n) (players_from set (p + 1) n) → AreBelow (p + suc n) (if b then p ∷ players_from set (p + 1) n else players_from set (p + 1) n)
    both true rest = (omega arith, rest)
    both false rest = rest

pub AreBelow-seats_in : (set : ℕ) → AreBelow 11 (seats_in set)
AreBelow-seats_in set = AreBelow-players_from set 1 10

pub AreBelow-hands_below : (set n : ℕ) → AreBelow n (hands_below set n)
AreBelow-hands_below set n =
    let at : 0 + n ≡ n = omega arith in
    let P : ℕ → Type 0 = λ k. AreBelow k (players_from set 0 n) in
    rw (hands_below-from set n) (subst P at (AreBelow-players_from set 0 n))

-- whether a player is in the list of a set
nobody : (set p q : ℕ) (a b : Bool) → nat_le p q ≡ a → nat_lt q (p + 0) ≡ b → false ≡ (a && b && has_player set q)
nobody set p q false b ea eb = refl
nobody set p q true false ea eb = refl
nobody set p q true true ea eb = absurd (let l : p ≤ q = grind arith in let m : q < p + 0 = grind arith in omega (arith, l, m))

last_false : (a b : Bool) → (a && b && false) ≡ false
last_false true true = refl
last_false true false = refl
last_false false b = refl

step : (p q : ℕ) → (p == q) ≡ false → (p < q) ⊎ (q ≤ p) → nat_le (p + 1) q ≡ nat_le p q
step p q ne (inl l) = (let x : nat_le (p + 1) q ≡ true = (let m : p + 1 ≤ q = omega arith in grind arith) in let y : nat_le p q ≡ true = grind arith in rw (x, y) refl)
step p q ne (inr l) = (let x : nat_le (p + 1) q ≡ false = grind arith in let y : nat_le p q ≡ false = grind arith in rw (x, y) refl)

further : (set p n q : ℕ) → (p == q) ≡ false → (nat_le (p + 1) q && nat_lt q ((p + 1) + n) && has_player set q) ≡ (nat_le p q && nat_lt q (p + suc n) && has_player set q)
further set p n q ne =
    let same : (p + 1) + n ≡ p + suc n = omega arith in
    rw (same, step p q ne (cases_lt p q)) refl

among_more : (set p n q : ℕ)
    → list_any (λ r. r == q) (players_from set (p + 1) n) ≡ (nat_le (p + 1) q && nat_lt q ((p + 1) + n) && has_player set q)
    → (bit : Bool) → has_player set p ≡ bit → (same : Bool) → (p == q) ≡ same
    → list_any (λ r. r == q) (if bit then p ∷ players_from set (p + 1) n else players_from set (p + 1) n) ≡ (nat_le p q && nat_lt q (p + suc n) && has_player set q)
among_more set p n q ih true eb true es =
    let e : p ≡ q = grind arith in
    let a : nat_le p q ≡ true = grind arith in
    let b : nat_lt q (p + suc n) ≡ true = (let l : q < p + suc n = omega arith in grind arith) in
    let c : has_player set q ≡ true = rw (← e) eb in
    rw (es, a, b, c) refl
among_more set p n q ih true eb false es = rw es (ih ∙ further set p n q es)
among_more set p n q ih false eb true es =
    let e : p ≡ q = grind arith in
    let up : nat_le (p + 1) q ≡ false = grind arith in
    let c : has_player set q ≡ false = rw (← e) eb in
    ih ∙ rw (up, c) (sym (last_false (nat_le p q) (nat_lt q (p + suc n))))
among_more set p n q ih false eb false es = ih ∙ further set p n q es

pub among-players_from : (set p n q : ℕ) → list_any (λ r. r == q) (players_from set p n) ≡ (nat_le p q && nat_lt q (p + n) && has_player set q)
among-players_from set p zero q = nobody set p q (nat_le p q) (nat_lt q (p + 0)) refl refl
among-players_from set p (suc n) q = among_more set p n q (among-players_from set (p + 1) n q) (has_player set p) refl (p == q) refl
