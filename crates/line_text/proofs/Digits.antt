-- Digits at the front of a text, and numbers that are kept up to the greatest of their type.
use Rattle.std.proofs.Common.{◌≡◌, ℕ, suc, ◌+◌, ◌*◌, ◌<◌, min, Bool, true, false, not, cond, List, [], ◌∷◌, length, take, drop, refl, sym, ap, subst, ◌∙◌, arith, inl, inr, None}
use Rattle.std.specs.Prelude.{nat_lt, position, unwrap_or}
use Rattle.std.specs.Char.{is_ascii_digit}
use Rattle.std.specs.List.{prefix_len, position_or_len}
use Rattle.std.proofs.lemmas.Bool.{cases_lt}
use Rattle.std.proofs.lemmas.List.{drop_all}
use Rattle.std.proofs.lemmas.List.Sums.{prefix_len-le-length}
use Rattle.line_text.specs.Amounts.{digit_count, written}

-- the first place that passes, or the length
pub place_or_end : (p : ℕ → Bool) (xs : List ℕ) → unwrap_or (position p xs) (length xs) ≡ position_or_len p xs
place_or_end p xs = elim (cases_lt (position_or_len p xs) (length xs)) [
  | inl inside ↦ let passes : nat_lt (position_or_len p xs) (length xs) ≡ true = grind arith in rw passes refl
  | inr past ↦
      let fails : nat_lt (position_or_len p xs) (length xs) ≡ false = grind arith in
      let end = prefix_len-le-length (λ x. not (p x)) xs in
      rw fails (omega (arith, end))
]

twice_not : (p : ℕ → Bool) (xs : List ℕ) → prefix_len (λ x. not (not (p x))) xs ≡ prefix_len p xs
twice_not p [] = refl
twice_not p (x ∷ xs) =
    elim (p x) as (λ v. cond (not (not v)) (1 + prefix_len (λ y. not (not (p y))) xs) 0 ≡ cond v (1 + prefix_len p xs) 0) [
      | true ↦ ap (λ n. 1 + n) (twice_not p xs)
      | false ↦ refl
    ]

-- the first place that fails, or the length
pub failing_or_end : (p : ℕ → Bool) (xs : List ℕ) → unwrap_or (position (λ x. not (p x)) xs) (length xs) ≡ prefix_len p xs
failing_or_end p xs = place_or_end (λ x. not (p x)) xs ∙ twice_not p xs

-- the digits at the front of a text are digits alone
front_more : (x : ℕ) (xs : List ℕ) → digit_count (take (digit_count xs) xs) ≡ length (take (digit_count xs) xs) → (b : Bool) → is_ascii_digit x ≡ b
    → digit_count (take (digit_count (x ∷ xs)) (x ∷ xs)) ≡ length (take (digit_count (x ∷ xs)) (x ∷ xs))
front_more x xs later true is =
    let count : digit_count (x ∷ xs) ≡ suc (digit_count xs) = ap (λ b. cond b (1 + digit_count xs) 0) is ∙ omega arith in
    subst (λ n. digit_count (take n (x ∷ xs)) ≡ length (take n (x ∷ xs))) (sym count)
    (ap (λ b. cond b (1 + digit_count (take (digit_count xs) xs)) 0) is ∙ omega (arith, later))
front_more x xs later false is = subst (λ n. digit_count (take n (x ∷ xs)) ≡ length (take n (x ∷ xs))) (sym (ap (λ b. cond b (1 + digit_count xs) 0) is)) refl

pub front_digits : (xs : List ℕ) → digit_count (take (digit_count xs) xs) ≡ length (take (digit_count xs) xs)
front_digits [] = refl
front_digits (x ∷ xs) = front_more x xs (front_digits xs) (is_ascii_digit x) refl

-- one digit more, kept up to the greatest
pub digit_kept : (number greatest digit : ℕ) → min (min (min number greatest * 10) greatest + digit) greatest ≡ min (number * 10 + digit) greatest
digit_kept number greatest digit = omega arith

-- nothing is written after the end
pub nothing_written : (bytes : List ℕ) (at : ℕ) → length bytes < at → written (drop at bytes) ≡ None
unfolding written
nothing_written bytes at h = rw (drop_all at bytes (omega arith)) refl
