-- The winners of a pot are the hands with the greatest number, where the numbers keep the order of the values.
use Rattle.std.proofs.Common.{◌≡◌, ℕ, zero, suc, ◌<◌, ◌≤◌, ◌==◌, ◌&&◌, Bool, true, false, cond, refl, sym, ap, ◌∙◌, inl, inr, arith, List, [], ◌∷◌, Option, append-nil}
use Rattle.std.specs.Prelude.{nat_le, filter, ◌^◌}
use Rattle.std.specs.Int.{bit_at}
use Rattle.std.specs.List.{list_all}
use Rattle.std.proofs.lemmas.Bool.{cases_eq, cases_lt, and_parts}
use Rattle.std.proofs.lemmas.List.Folds.{list_all-append}
use Rattle.std.proofs.lemmas.List.Elements.{filter-append}
use Rattle.std.proofs.lemmas.Nat.Bits.{bit_at_above}
use mathlib.Core.Bool.{true≢false}
use Rattle.card_sets.specs.PlayerSets.{hands_below}
use Rattle.showdown_tally.specs.Settling.{tops_below, is_top, number_of}

abbrev pub is_set : ℕ → ℕ → Bool
is_set mask h = bit_at mask h == 1

-- no hand stands at or above the number of hands
pub hands_short : (mask count n : ℕ) → mask < 2 ^ count → count ≤ n → hands_below mask n ≡ hands_below mask count
hands_short mask count zero small l = let e : 0 ≡ count = omega arith in ap (hands_below mask) e
hands_short mask count (suc n) small l = elim (cases_lt n count) [
  | inl lt ↦ let e : suc n ≡ count = omega arith in ap (hands_below mask) e
  | inr ge ↦
      let bit : bit_at mask n ≡ 0 = bit_at_above mask count n small ge in
      rw bit (append-nil (hands_below mask n) ∙ hands_short mask count n small ge)
]

one_all : (p : ℕ → Bool) (b : Bool) (m : ℕ) → list_all p (cond b (m ∷ []) []) ≡ cond b (p m) true
one_all p true m = and-true (p m)
  where
    and-true : (a : Bool) → (a && true) ≡ a
    and-true true = refl
    and-true false = refl
one_all p false m = refl

-- each hand of the mask passes
pub all_pass : (p : ℕ → Bool) (mask m : ℕ) → ((j : ℕ) → j < m → is_set mask j ≡ true → p j ≡ true) → list_all p (hands_below mask m) ≡ true
all_pass p mask zero h = refl
all_pass p mask (suc m) h =
    let ih : list_all p (hands_below mask m) ≡ true = all_pass p mask m (λ j l b. h j (omega arith) b) in
    let last : cond (is_set mask m) (p m) true ≡ true =
    elim (is_set mask m) as (λ b. is_set mask m ≡ b → cond b (p m) true ≡ true) [ true ↦ λ b. h m (omega arith) b | false ↦ λ b. refl ] refl in
    list_all-append p (hands_below mask m) _ ∙ rw (ih, one_all p (is_set mask m) m, last) refl

pub pass_all : (p : ℕ → Bool) (mask m j : ℕ) → list_all p (hands_below mask m) ≡ true → j < m → is_set mask j ≡ true → p j ≡ true
pass_all p mask zero j h l b = absurd (omega arith)
pass_all p mask (suc m) j h l b =
    let two = and_parts (list_all p (hands_below mask m)) (list_all p (cond (is_set mask m) (m ∷ []) [])) (sym (list_all-append p (hands_below mask m) _) ∙ h) in
    elim (cases_eq j m) [
      | inl e ↦
          let bit : is_set mask m ≡ true = ap (is_set mask) (sym e) ∙ b in
          let last : cond (is_set mask m) (p m) true ≡ true = sym (one_all p (is_set mask m) m) ∙ two.1 in
          ap p e ∙ (rw bit at last)
      | inr ne ↦ pass_all p mask m j two.0 (omega arith) b
    ]

pub is_true_iff : (a b : Bool) → (a ≡ true → b ≡ true) → (b ≡ true → a ≡ true) → a ≡ b
is_true_iff true true f g = refl
is_true_iff true false f g = sym (f refl)
is_true_iff false true f g = g refl
is_true_iff false false f g = refl

pub le_true : (a b : ℕ) → nat_le a b ≡ true → a ≤ b
le_true a b h = elim (cases_lt b a) [ inl l ↦ let f : nat_le a b ≡ false = grind arith in absurd (true≢false (sym h ∙ f)) | inr ge ↦ ge ]

pub filter_tops : (p : ℕ → Bool) (values : List (Option ℕ)) (top : Option ℕ) (mask m : ℕ) → ((i : ℕ) → i < m → is_set mask i ≡ true → p i ≡ is_top (number_of values i) top)
    → filter p (hands_below mask m) ≡ tops_below values top mask m
filter_tops p values top mask zero h = refl
filter_tops p values top mask (suc m) h =
    let ih : filter p (hands_below mask m) ≡ tops_below values top mask m = filter_tops p values top mask m (λ i l b. h i (omega arith) b) in
    let last : filter p (cond (is_set mask m) (m ∷ []) []) ≡ cond (is_set mask m && is_top (number_of values m) top) (m ∷ []) [] =
    elim (is_set mask m) as (λ b. is_set mask m ≡ b → filter p (cond b (m ∷ []) []) ≡ cond (b && is_top (number_of values m) top) (m ∷ []) []) [
      | true ↦ λ b. ap (λ x. cond x (m ∷ []) []) (h m (omega arith) b)
      | false ↦ λ b. refl
    ] refl in
    filter-append p (hands_below mask m) _ ∙ rw (ih, last) refl
