-- The number of a high hand's list keeps the order of the lists.
use Rattle.std.proofs.Common.{◌≡◌, ℕ, suc, zero, ◌+◌, ◌*◌, ◌^◌, ◌≤◌, ◌<◌, List, ◌∷◌, [], refl, ap, ◌∙◌, sym, arith, Bool, true, false, cond, length, inl, inr, map}
use Rattle.std.specs.Prelude.{nat_lt, ◌&&◌}
use Rattle.std.proofs.Math.Nat.{mul-le-mul_right, one-le-pow, pow-succ'}
use Rattle.std.specs.Ordering.{nat_cmp, ordering_then}
use Rattle.std.specs.Cmp.{nat_cmp_is}
use Rattle.std.specs.Cmp.Lexicographic.{slice_cmp}
use Rattle.std.specs.declared.cmp.Ordering.TheVariants.{Less, Equal, Greater}
use Rattle.std.proofs.lemmas.Bool.{cases_order}
use Rattle.rank_high.specs.High.{digits_from, value_of, high, pips, is_wheel, is_flush, is_straight, groups, group_count, category, category_of}
use Rattle.rank_high.proofs.CountedRanks.{AreBelow, AreBelow-groups_counted, length-groups, group_sizes}

-- each number is 1 to 15
abbrev pub AreDigits : List ℕ → Type 0
AreDigits [] = Unit {0}
AreDigits (x ∷ xs) = (0 < x) × (x < 16) × AreDigits xs

pub digits_from-lt : (k : ℕ) (xs : List ℕ) → AreDigits xs → digits_from k xs < 16 ^ k
digits_from-lt zero xs d = omega arith
digits_from-lt (suc k) [] d = one-le-pow (suc k) 16 (omega arith)
digits_from-lt (suc k) (x ∷ xs) d =
    let rest : digits_from k xs < 16 ^ k = digits_from-lt k xs d.2 in
    let first : x * 16 ^ k ≤ 15 * 16 ^ k = mul-le-mul_right (16 ^ k) (omega arith) in
    let whole : 16 ^ suc k ≡ 16 * 16 ^ k = pow-succ' 16 k in
    omega arith

-- a smaller first number makes a smaller number
pub first_less : (b x y r s : ℕ) → x < y → r < b → x * b + r < y * b + s
first_less b x y r s l h =
    let m : (x + 1) * b ≤ y * b = mul-le-mul_right b (omega arith) in
    omega arith

positive : (k y : ℕ) (ys : List ℕ) → 0 < y → 0 < y * 16 ^ k + digits_from k ys
positive k y ys h =
    let p : 1 ≤ 16 ^ k = one-le-pow k 16 (omega arith) in
    let m : 1 * 16 ^ k ≤ y * 16 ^ k = mul-le-mul_right (16 ^ k) h in
    omega arith

shift_cmp : (n a b : ℕ) → nat_cmp (n + a) (n + b) ≡ nat_cmp a b
shift_cmp n a b = elim (cases_order a b) [
  | inl e ↦ sym (nat_cmp_is (n + a) (n + b) Equal (omega arith)) ∙ nat_cmp_is a b Equal e
  | inr o ↦ elim o [
    | inl l ↦ sym (nat_cmp_is (n + a) (n + b) Less (omega arith)) ∙ nat_cmp_is a b Less l
    | inr g ↦ sym (nat_cmp_is (n + a) (n + b) Greater (omega arith)) ∙ nat_cmp_is a b Greater g
  ]
]

-- one more digit before the others
cons_order : (k x y : ℕ) (xs ys : List ℕ) → AreDigits xs → AreDigits ys → nat_cmp (digits_from k xs) (digits_from k ys) ≡ slice_cmp nat_cmp xs ys
    → nat_cmp (x * 16 ^ k + digits_from k xs) (y * 16 ^ k + digits_from k ys) ≡ slice_cmp nat_cmp (x ∷ xs) (y ∷ ys)
cons_order k x y xs ys p q rest = elim (cases_order x y) [
  | inl e ↦
      ap (λ v. nat_cmp (v * 16 ^ k + digits_from k xs) (y * 16 ^ k + digits_from k ys)) e
      ∙ shift_cmp (y * 16 ^ k) (digits_from k xs) (digits_from k ys)
      ∙ rest
      ∙ ap (λ o. ordering_then o (slice_cmp nat_cmp xs ys)) (nat_cmp_is x y Equal e)
  | inr o ↦ elim o [
    | inl l ↦ sym (nat_cmp_is _ _ Less (first_less (16 ^ k) x y (digits_from k xs) (digits_from k ys) l (digits_from-lt k xs p))) ∙ ap (λ o. ordering_then o (slice_cmp nat_cmp xs ys)) (nat_cmp_is x y Less l)
    | inr g ↦ sym (nat_cmp_is _ _ Greater (first_less (16 ^ k) y x (digits_from k ys) (digits_from k xs) g (digits_from-lt k ys q))) ∙ ap (λ o. ordering_then o (slice_cmp nat_cmp xs ys)) (nat_cmp_is x y Greater g)
  ]
]

pub digits_order : (k : ℕ) (xs ys : List ℕ) → length xs ≤ k → length ys ≤ k → AreDigits xs → AreDigits ys
    → nat_cmp (digits_from k xs) (digits_from k ys) ≡ slice_cmp nat_cmp xs ys
digits_order zero [] [] a b p q = refl
digits_order zero (x ∷ xs) ys a b p q = absurd (omega arith)
digits_order zero [] (y ∷ ys) a b p q = absurd (omega arith)
digits_order (suc k) [] [] a b p q = refl
digits_order (suc k) [] (y ∷ ys) a b p q = sym (nat_cmp_is 0 (y * 16 ^ k + digits_from k ys) Less (positive k y ys q.0))
digits_order (suc k) (x ∷ xs) [] a b p q = sym (nat_cmp_is (x * 16 ^ k + digits_from k xs) 0 Greater (positive k x xs p.0))
digits_order (suc k) (x ∷ xs) (y ∷ ys) a b p q = cons_order k x y xs ys p.2 q.2 (digits_order k xs ys (omega arith) (omega arith) p.2 q.2)

-- a category, and then at most five ranks
abbrev pub IsHighList : List ℕ → Type 0
IsHighList [] = ⊥
IsHighList (c ∷ ps) = (c < 16) × AreDigits ps × (length ps ≤ 5)

-- the number of such a list has six digits
pub value_of-lt : (xs : List ℕ) → IsHighList xs → value_of xs < 2 ^ 32
unfolding value_of
value_of-lt [] p = absurd p
value_of-lt (c ∷ ps) p = let rest : digits_from 5 ps < 16 ^ 5 = digits_from-lt 5 ps p.1 in omega arith

pub value_of-order : (xs ys : List ℕ) → IsHighList xs → IsHighList ys → nat_cmp (value_of xs) (value_of ys) ≡ slice_cmp nat_cmp xs ys
unfolding value_of
value_of-order [] ys p q = absurd p
value_of-order (c ∷ ps) [] p q = absurd q
value_of-order (c ∷ ps) (d ∷ qs) p q = cons_order 5 c d ps qs p.1 q.1 (digits_order 5 ps qs p.2 q.2 p.1 q.1)

pub AreDigits-map : (ranks : List ℕ) → AreBelow 13 ranks → AreDigits (map (λ r. r + 2) ranks)
AreDigits-map [] b = tt
AreDigits-map (r ∷ ranks) b = (omega arith, omega arith, AreDigits-map ranks b.1)

pub AreDigits-pips : (ranks : List ℕ) → AreBelow 13 ranks → AreDigits (pips ranks)
unfolding pips
AreDigits-pips ranks b = one (is_wheel ranks)
  where
    one : (w : Bool) → AreDigits (cond w (5 ∷ 4 ∷ 3 ∷ 2 ∷ 1 ∷ []) (map (λ r. r + 2) ranks))
    one true = (omega arith, omega arith, (omega arith, omega arith, (omega arith, omega arith, (omega arith, omega arith, (omega arith, omega arith, tt)))))
    one false = AreDigits-map ranks b

pub length-map_two : (ranks : List ℕ) → length (map (λ r. r + 2) ranks) ≡ length ranks
length-map_two [] = refl
length-map_two (r ∷ ranks) = let ih : length (map (λ r. r + 2) ranks) ≡ length ranks = length-map_two ranks in omega arith

pub length-pips : (ranks : List ℕ) → length ranks ≤ 5 → length (pips ranks) ≤ 5
unfolding pips
length-pips ranks h = one (is_wheel ranks)
  where
    one : (w : Bool) → length (cond w (5 ∷ 4 ∷ 3 ∷ 2 ∷ 1 ∷ []) (map (λ r. r + 2) ranks)) ≤ 5
    one true = omega arith
    one false = omega (arith, length-map_two ranks)

cond_le : (b : Bool) (x y m : ℕ) → x ≤ m → y ≤ m → cond b x y ≤ m
cond_le true x y m h i = h
cond_le false x y m h i = i

pub category_of-le : (straight flush : Bool) (fours threes pairs : ℕ) → pairs ≤ 8 → category_of straight flush fours threes pairs ≤ 8
unfolding category_of
category_of-le straight flush fours threes pairs h =
    cond_le (straight && flush) _ _ 8 (omega arith)
    (cond_le (nat_lt 0 fours) _ _ 8 (omega arith)
    (cond_le (nat_lt 0 threes && nat_lt 0 pairs) _ _ 8 (omega arith)
    (cond_le flush _ _ 8 (omega arith)
    (cond_le straight _ _ 8 (omega arith)
    (cond_le (nat_lt 0 threes) _ _ 8 (omega arith) h)))))

-- what at most five cards are worth is such a list
pub high-IsHighList : (five : List ℕ) → length five ≤ 5 → IsHighList (high five)
unfolding high
high-IsHighList five h =
    let few : group_count five 2 ≤ 8 = omega (arith, group_sizes five) in
    let low : category five ≤ 8 = category_of-le (is_straight (groups five)) (is_flush five) (group_count five 4) (group_count five 3) (group_count five 2) few in
    let short : length (groups five) ≤ 5 = omega (arith, length-groups five) in
    (omega arith, AreDigits-pips (groups five) (AreBelow-groups_counted _), length-pips (groups five) short)
