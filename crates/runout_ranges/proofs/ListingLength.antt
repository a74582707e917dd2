-- Binomials, and how long the listing is.
use Rattle.std.proofs.Common.{◌≡◌, ℕ, zero, suc, ◌+◌, ◌-◌, ◌*◌, ◌/◌, ◌^◌, ◌<◌, ◌≤◌, List, [], ◌∷◌, ◌++◌, map, refl, sym, ap, ◌∙◌, inl, inr, append_assoc, length, length-append, get_or, drop, sum, arith, true, false, cond, not}
use Rattle.std.specs.List.{flat_map}
use Rattle.std.proofs.lemmas.List.{length-map, drop_more, drop_all}
use Rattle.std.proofs.lemmas.List.Sums.{sum_by-cons}
use Rattle.std.proofs.lemmas.Nat.{mul-le}
use Rattle.std.proofs.Math.Nat.{pow-le-pow_right, mul-div_cancel_left, le-mul_of_pos_right, mul_assoc, mul-pos}
use Rattle.runout_ranges.specs.Slots.{counts_of}
use Rattle.runout_ranges.specs.declared.shapes.Slot.{Slot}
use Rattle.std.proofs.lemmas.Bool.{cases_lt}
use Rattle.card_sets.specs.Cards.{has_card, IsRising, RisingFrom}
use Rattle.card_sets.specs.Choose.{choose}
use Rattle.card_sets.specs.Rising.{RisingFrom-lower}
use Rattle.runout_ranges.specs.Runouts.{runouts, left_by}
use Rattle.runout_ranges.specs.Ways.{binomial, ways}
use Rattle.runout_ranges.proofs.FilledSlots.{left_length}

-- more cards than there are can't be chosen
pub binomial_none : (n k : ℕ) → n < k → binomial n k ≡ 0
binomial_none n zero h = absurd (omega arith)
binomial_none zero (suc k) h = refl
binomial_none (suc n) (suc k) h = omega (arith, binomial_none n k (omega arith), binomial_none n (suc k) (omega arith))

pub binomial_some : (n k : ℕ) → k ≤ n → 0 < binomial n k
binomial_some n zero h = omega arith
binomial_some zero (suc k) h = absurd (omega arith)
binomial_some (suc n) (suc k) h = omega (arith, binomial_some n k (omega arith))

pub binomial_small : (n k : ℕ) → binomial n k ≤ 2 ^ n
binomial_small zero zero = omega arith
binomial_small (suc n) zero = omega (arith, double n, binomial_small n zero)
  where
    double : (n : ℕ) → 2 ^ suc n ≡ 2 * 2 ^ n
    double n = omega arith
binomial_small zero (suc k) = omega arith
binomial_small (suc n) (suc k) = omega (arith, double n, binomial_small n k, binomial_small n (suc k))
  where
    double : (n : ℕ) → 2 ^ suc n ≡ 2 * 2 ^ n
    double n = omega arith

-- one card more: as many choices as there are cards left, each reached from each of its cards
pub binomial_step : (n k : ℕ) → suc k * binomial n (suc k) ≡ (n - k) * binomial n k
binomial_step zero k =
    let none : zero - k ≡ 0 = omega arith in
    rw none (omega arith)
binomial_step (suc n) zero =
    let ih : 1 * binomial n 1 ≡ (n - 0) * 1 = binomial_step n zero in
    omega arith
binomial_step (suc n) (suc j) = elim (cases_lt j n) [
  | inl l ↦
      let m : suc (n - suc j) ≡ n - j = omega arith in
      let m' : suc n - suc j ≡ suc (n - suc j) = omega arith in
      let b : suc j * binomial n (suc j) ≡ suc (n - suc j) * binomial n j = binomial_step n j ∙ ap (λ x. x * binomial n j) (sym m) in
      rw m' (sums j (n - suc j) (binomial n (suc j)) (binomial n j) (binomial n (suc (suc j))) (binomial_step n (suc j)) b)
  | inr ge ↦
      let a : binomial n (suc j) ≡ 0 = binomial_none n (suc j) (omega arith) in
      let b : binomial n (suc (suc j)) ≡ 0 = binomial_none n (suc (suc j)) (omega arith) in
      let m : suc n - suc j ≡ 0 = omega arith in
      rw (a, b, m) (omega arith)
]
  where
    sums : (j m a b c : ℕ) → suc (suc j) * c ≡ m * a → suc j * a ≡ suc m * b → suc (suc j) * (a + c) ≡ suc m * (b + a)
    sums j m a b c e f = omega arith

pub length_choose : (k : ℕ) (xs : List ℕ) → length (choose k xs) ≡ binomial (length xs) k
length_choose zero xs = refl
length_choose (suc k) [] = refl
length_choose (suc k) (c ∷ cs) =
    omega (arith, length-append (map (λ rest. c ∷ rest) (choose k cs)) (choose (suc k) cs), length-map (choose k cs) (λ rest. c ∷ rest), length_choose k cs, length_choose (suc k) cs)

-- what is left of a rising list rises
pub rising_left : (low : ℕ) (xs taken : List ℕ) → RisingFrom low xs → RisingFrom low (left_by xs taken)
rising_left low [] taken r = tt
rising_left low (x ∷ xs) taken r = elim (has_card taken x) as (λ b. RisingFrom low (cond (not b) (x ∷ left_by xs taken) (left_by xs taken))) [
  | true ↦ RisingFrom-lower (x + 1) low (left_by xs taken) (omega (arith, r.0)) (rising_left (x + 1) xs taken r.2)
  | false ↦ (r.0, r.1, rising_left (x + 1) xs taken r.2)
]

-- equally many runouts for each choice
blocks : (n w : ℕ) (unseen counts : List ℕ) → IsRising unseen → ((xs : List ℕ) → IsRising xs → length (runouts xs counts) ≡ ways (length xs) counts) → ways (length unseen - n) counts ≡ w
    → (front firsts : List (List ℕ)) → choose n unseen ≡ front ++ firsts → length (flat_map (λ first. map (λ rest. first ∷ rest) (runouts (left_by unseen first) counts)) firsts) ≡ length firsts * w
blocks n w unseen counts r ih one front [] e = omega arith
blocks n w unseen counts r ih one front (f ∷ firsts) e =
    let rest = blocks n w unseen counts r ih one (front ++ f ∷ []) firsts (e ∙ sym (append_assoc front (f ∷ []) firsts)) in
    let l : length (left_by unseen f) + n ≡ length unseen = left_length 0 n unseen f front firsts r e in
    let left : length (left_by unseen f) ≡ length unseen - n = omega arith in
    let here : length (runouts (left_by unseen f) counts) ≡ w = ih (left_by unseen f) (rising_left 0 unseen f r) ∙ ap (λ k. ways k counts) left ∙ one in
    omega (arith, length-append (map (λ rest. f ∷ rest) (runouts (left_by unseen f) counts)) (flat_map (λ first. map (λ rest. first ∷ rest) (runouts (left_by unseen first) counts)) firsts), length-map (runouts (left_by unseen f) counts) (λ rest. f ∷ rest))

pub length_runouts : (counts unseen : List ℕ) → IsRising unseen → length (runouts unseen counts) ≡ ways (length unseen) counts
length_runouts [] unseen r = refl
length_runouts (n ∷ counts) unseen r =
    blocks n (ways (length unseen - n) counts) unseen counts r (λ xs h. length_runouts counts xs h) refl [] (choose n unseen) refl ∙ ap (λ k. k * ways (length unseen - n) counts) (length_choose n unseen)

-- the product fits a word of 64 bits
pub choice_fits : (n i a b : ℕ) → n ≤ 52 → a ≡ binomial n i → b ≡ n - i → a * b < 2 ^ 64
choice_fits n i a b small e f =
    let power : 2 ^ n ≤ 2 ^ 52 = pow-le-pow_right (omega arith) small in
    let product : a * b ≤ 2 ^ 52 * 52 = mul-le a b (2 ^ 52) 52 (omega (arith, binomial_small n i)) (omega arith) in
    omega arith

pub choice_more : (n i a b c : ℕ) → a ≡ binomial n i → b ≡ n - i → c ≡ i + 1 → a * b / c ≡ binomial n (i + 1)
choice_more n i a b c e f g =
    let up : i + 1 ≡ suc i = omega arith in
    let product : a * b ≡ suc i * binomial n (suc i) = omega (arith, ap (λ x. x * b) e, ap (λ x. binomial n i * x) f, binomial_step n i) in
    ap (λ x. x / c) product ∙ ap (λ x. suc i * binomial n (suc i) / x) (g ∙ up) ∙ mul-div_cancel_left (binomial n (suc i)) (omega arith) ∙ ap (λ k. binomial n k) (sym up)

pub ways_some : (counts : List ℕ) (left : ℕ) → sum counts ≤ left → 0 < ways left counts
ways_some [] left h = omega arith
ways_some (n ∷ counts) left h =
    let all : sum (n ∷ counts) ≡ n + sum counts = sum_by-cons (λ k. k) n counts in
    let a : 0 < binomial left n = binomial_some left n (omega arith) in
    let b : 0 < ways (left - n) counts = ways_some counts (left - n) (omega arith) in
    mul-pos a b

-- the ways with one slot more
pub ways_more : (slots : List Slot) (i left n total all : ℕ) (d : Slot) → i < length slots → n ≡ (get_or slots i d).count → sum (counts_of (drop i slots)) ≤ left → total * ways left (counts_of (drop i slots)) ≡ all
    → (n ≤ left) × (sum (counts_of (drop (i + 1) slots)) ≤ left - n) × ((total * binomial left n) * ways (left - n) (counts_of (drop (i + 1) slots)) ≡ all)
ways_more slots i left n total all d h e enough whole =
    let parts : counts_of (drop i slots) ≡ n ∷ counts_of (drop (i + 1) slots) = ap (λ l. counts_of l) (drop_more slots i d h) ∙ ap (λ k. k ∷ counts_of (drop (i + 1) slots)) (sym e) in
    let sums : sum (counts_of (drop i slots)) ≡ n + sum (counts_of (drop (i + 1) slots)) = ap sum parts ∙ sum_by-cons (λ k. k) n (counts_of (drop (i + 1) slots)) in
    (omega arith, omega arith, mul_assoc total (binomial left n) (ways (left - n) (counts_of (drop (i + 1) slots))) ∙ ap (λ l. total * ways left l) (sym parts) ∙ whole)

-- at the end all ways are counted
pub ways_all : (slots : List Slot) (i left total all : ℕ) → length slots ≤ i → total * ways left (counts_of (drop i slots)) ≡ all → total ≡ all
ways_all slots i left total all h whole =
    let none : drop i slots ≡ [] = drop_all i slots h in
    let one : total * 1 ≡ total = omega arith in
    sym one ∙ ap (λ l. total * ways left (counts_of l)) (sym none) ∙ whole

-- a product so far isn't above all of it
pub ways_above : (slots : List Slot) (i left total all : ℕ) → sum (counts_of (drop i slots)) ≤ left → total * ways left (counts_of (drop i slots)) ≡ all → total ≤ all
ways_above slots i left total all enough whole =
    let some : 0 < ways left (counts_of (drop i slots)) = ways_some (counts_of (drop i slots)) left enough in
    let up : total ≤ total * ways left (counts_of (drop i slots)) = le-mul_of_pos_right total some in
    omega arith
