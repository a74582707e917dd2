-- Some hands as the number with their bits, and back.
use Rattle.std.proofs.Common.{◌≡◌, ℕ, zero, suc, ◌+◌, ◌-◌, ◌*◌, ◌<◌, ◌≤◌, ◌==◌, ◌&&◌, ◌^◌, Bool, true, false, cond, refl, ap, ◌∙◌, inl, inr, arith, List, [], ◌∷◌, ◌++◌, length, Option}
use Rattle.std.specs.Prelude.{filter}
use Rattle.std.specs.Int.{bit_at}
use Rattle.std.proofs.lemmas.Bool.{cases_eq}
use Rattle.std.proofs.lemmas.List.Elements.{filter-append}
use Rattle.std.proofs.lemmas.List.Sums.{sum_by-append}
use Rattle.std.proofs.lemmas.Nat.Bits.{bit_at_cat_low, bit_at_cat_high}
use Rattle.card_sets.specs.Cards.{cards_below}
use Rattle.card_sets.specs.PlayerSets.{set_of_players, hands_below, players_in, players_where}
use Rattle.card_sets.specs.PlayerSetLaws.{players_in-hands}
use Rattle.showdown_tally.specs.Settling.{tops_below, is_top, number_of}
use Rattle.showdown_tally.proofs.Winners.{is_set}

-- the hands of a mask are those of the numbers below n that pass a test
hands_tested : (mask n : ℕ) → hands_below mask n ≡ cards_below (is_set mask) n
hands_tested mask n = refl

tested_same : (p q : ℕ → Bool) (n : ℕ) → ((k : ℕ) → k < n → p k ≡ q k) → cards_below p n ≡ cards_below q n
tested_same p q zero same = refl
tested_same p q (suc n) same =
    let here : p n ≡ q n = same n (omega arith) in
    let ih : cards_below p n ≡ cards_below q n = tested_same p q n (λ k l. same k (omega arith)) in
    rw (here, ih) refl

filter_tested : (p q : ℕ → Bool) (n : ℕ) → filter p (cards_below q n) ≡ cards_below (λ k. q k && p k) n
filter_tested p q zero = refl
filter_tested p q (suc n) = filter-append p (cards_below q n) _ ∙ rw (filter_tested p q n, one (q n)) refl
  where
    one : (b : Bool) → filter p (cond b (n ∷ []) []) ≡ cond (b && p n) (n ∷ []) []
    one true = refl
    one false = refl

last_bit : (b : Bool) (n : ℕ) → set_of_players (cond b (n ∷ []) []) ≡ cond b 1 0 * 2 ^ n
last_bit true n = omega arith
last_bit false n = omega arith

mask_more : (q : ℕ → Bool) (n : ℕ) → set_of_players (cards_below q (suc n)) ≡ cond (q n) 1 0 * 2 ^ n + set_of_players (cards_below q n)
mask_more q n = omega (arith, sum_by-append (λ hand. 2 ^ hand) (cards_below q n) (cond (q n) (n ∷ []) []), last_bit (q n) n)

pow_twice : (n : ℕ) → 2 ^ suc n ≡ 2 ^ n + 2 ^ n
pow_twice n = omega arith

-- the number of some hands below n has n bits
mask_small : (q : ℕ → Bool) (n : ℕ) → set_of_players (cards_below q n) < 2 ^ n
mask_small q zero = omega arith
mask_small q (suc n) =
    let ih : set_of_players (cards_below q n) < 2 ^ n = mask_small q n in
    elim (q n) as (λ b. set_of_players (cards_below q (suc n)) ≡ cond b 1 0 * 2 ^ n + set_of_players (cards_below q n) → set_of_players (cards_below q (suc n)) < 2 ^ suc n) [
      | true ↦ λ e. omega (arith, ih, e, pow_twice n)
      | false ↦ λ e. omega (arith, ih, e, pow_twice n)
    ] (mask_more q n)

-- the bit of a hand is set where it passes
mask_bit : (q : ℕ → Bool) (n h : ℕ) → h < n → is_set (set_of_players (cards_below q n)) h ≡ q h
mask_bit q zero h l = absurd (omega arith)
mask_bit q (suc n) h l = rw (mask_more q n) (elim (cases_eq h n) [
  | inl e ↦
      let high : bit_at (cond (q n) 1 0 * 2 ^ n + set_of_players (cards_below q n)) n ≡ bit_at (cond (q n) 1 0) 0 =
      bit_at_cat_high (cond (q n) 1 0) n (set_of_players (cards_below q n)) n (mask_small q n) (omega arith) ∙ ap (bit_at (cond (q n) 1 0)) (let z : n - n ≡ 0 = omega arith in z) in
      rw (e, high) (one (q n))
  | inr ne ↦ rw (bit_at_cat_low (cond (q n) 1 0) n (set_of_players (cards_below q n)) h (omega arith)) (mask_bit q n h (omega arith))
])
  where
    one : (b : Bool) → (bit_at (cond b 1 0) 0 == 1) ≡ b
    one true = refl
    one false = refl

-- those of the hands of a mask that pass are again those of their number, and this has as many bits as there are hands
pub mask_hands : (p : ℕ → Bool) (mask n : ℕ) → hands_below (set_of_players (filter p (hands_below mask n))) n ≡ filter p (hands_below mask n)
mask_hands p mask n =
    let tested : filter p (hands_below mask n) ≡ cards_below (λ k. is_set mask k && p k) n = ap (filter p) (hands_tested mask n) ∙ filter_tested p (is_set mask) n in
    rw tested (hands_tested (set_of_players (cards_below (λ k. is_set mask k && p k) n)) n ∙ tested_same _ _ n (λ k l. mask_bit (λ k. is_set mask k && p k) n k l))

pub mask_below : (p : ℕ → Bool) (mask n : ℕ) → set_of_players (filter p (hands_below mask n)) < 2 ^ n
mask_below p mask n =
    let tested : filter p (hands_below mask n) ≡ cards_below (λ k. is_set mask k && p k) n = ap (filter p) (hands_tested mask n) ∙ filter_tested p (is_set mask) n in
    rw tested (mask_small (λ k. is_set mask k && p k) n)

-- how many hands a set has
pub count_length : (set n : ℕ) → set < 2 ^ n → n ≤ 10 → length (players_in set) ≡ length (hands_below set n)
count_length set n small few = ap length (players_in-hands set n (omega (arith, few)) small)

-- the hands with the greatest value, as a set
pub tops_set : (values : List (Option ℕ)) (top : Option ℕ) (mask n : ℕ) → players_where (λ hand. (bit_at mask hand == 1) && is_top (number_of values hand) top) n ≡ set_of_players (tops_below values top mask n)
tops_set values top mask zero = refl
tops_set values top mask (suc n) = (let ih : players_where (λ hand. (bit_at mask hand == 1) && is_top (number_of values hand) top) n ≡ set_of_players (tops_below values top mask n) = tops_set values top mask n in more ((bit_at mask n == 1) && is_top (number_of values n) top) ih)
  where
    more : (b : Bool) → players_where (λ hand. (bit_at mask hand == 1) && is_top (number_of values hand) top) n ≡ set_of_players (tops_below values top mask n)
        → players_where (λ hand. (bit_at mask hand == 1) && is_top (number_of values hand) top) n + cond b (2 ^ n) 0 ≡ set_of_players (tops_below values top mask n ++ cond b (n ∷ []) [])
    more true ih = omega (arith, ih, sum_by-append (λ hand. 2 ^ hand) (tops_below values top mask n) (n ∷ []))
    more false ih = omega (arith, ih, sum_by-append (λ hand. 2 ^ hand) (tops_below values top mask n) [])
