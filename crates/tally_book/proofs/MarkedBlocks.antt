-- The runouts of the marked blocks: with one block more, with none and with all.
use Rattle.std.proofs.Common.{◌≡◌, ◌+◌, ◌<◌, ◌≤◌, ℕ, zero, suc, Bool, true, false, cond, List, [], ◌∷◌, length, get_or, set, replicate, refl, ap, arith}
use Rattle.std.specs.List.{sum_by, count_by, range_with_len}
use Rattle.std.proofs.lemmas.List.Sums.{sum_by-append, sum_by-cons}
use Rattle.job_blocks.specs.Blocks.{block_of, blocks_of}
use Rattle.job_blocks.proofs.CallerLemmas.{sum_flat, all_blocks, ones}
use Rattle.tally_book.specs.Pages.{marked_from, marked_of}

-- with one more block marked the marked ones weigh what they did, and that block
weigh_more : (g : ℕ → ℕ) (k : ℕ) (marks : List Bool) (i : ℕ) (d : Bool) → i < length marks → get_or marks i d ≡ false
    → sum_by g (marked_from k (set marks i true)) ≡ sum_by g (marked_from k marks) + g (k + i)
weigh_more g k [] i d low is = absurd (omega arith)
weigh_more g k (m ∷ ms) zero d low is =
    let here : k + 0 ≡ k = omega arith in
    let e = ap g here in
    rw is (omega (arith, sum_by-cons g k (marked_from (k + 1) ms)))
weigh_more g k (m ∷ ms) (suc i) d low is =
    let ih = weigh_more g (k + 1) ms i d (omega arith) is in
    let on : k + 1 + i ≡ k + suc i = omega arith in
    let e = ap g on in
    let p = cond m (k ∷ []) [] in
    omega (arith, sum_by-append g p (marked_from (k + 1) (set ms i true)), sum_by-append g p (marked_from (k + 1) ms))

-- and never more than all blocks
weigh_all : (g : ℕ → ℕ) (k : ℕ) (marks : List Bool) → sum_by g (marked_from k marks) ≤ sum_by g (range_with_len k (length marks))
weigh_all g k [] = omega arith
weigh_all g k (m ∷ ms) =
    let ih = weigh_all g (k + 1) ms in
    let a = sum_by-append g (cond m (k ∷ []) []) (marked_from (k + 1) ms) in
    let b = sum_by-cons g k (range_with_len (k + 1) (length ms)) in
    let p : sum_by g (cond m (k ∷ []) []) ≤ g k = elim m as (λ b. sum_by g (cond b (k ∷ []) []) ≤ g k) [ true ↦ omega (arith, sum_by-cons g k []) | false ↦ omega arith ] in
    omega arith

-- with one block more marked there is what there was, and that block
pub marked_more : {X : Type 0} (f : X → ℕ) (all : List X) (marks : List Bool) (i : ℕ) (d : Bool) → i < length marks → get_or marks i d ≡ false
    → sum_by f (marked_of all (set marks i true)) ≡ sum_by f (marked_of all marks) + sum_by f (block_of all i)
marked_more f all marks i d low is =
    let g : ℕ → ℕ = λ b. sum_by f (block_of all b) in
    let here : 0 + i ≡ i = omega arith in
    let e = ap g here in
    let w = weigh_more g 0 marks i d low is in
    omega (arith, sum_flat f (block_of all) (marked_from 0 (set marks i true)), sum_flat f (block_of all) (marked_from 0 marks))

-- the marked blocks are no longer than the listing
pub marked_few : (all : List (List (List ℕ))) (marks : List Bool) → length marks ≡ blocks_of (length all) → length (marked_of all marks) ≤ length all
marked_few all marks count =
    let one : List (List ℕ) → ℕ = λ _. 1 in
    let g : ℕ → ℕ = λ b. sum_by one (block_of all b) in
    let w = weigh_all g 0 marks in
    let n = ap (λ n. sum_by g (range_with_len 0 n)) count in
    let whole = ap (sum_by one) (all_blocks all) in
    omega (arith, sum_flat one (block_of all) (marked_from 0 marks), sum_flat one (block_of all) (range_with_len 0 (blocks_of (length all))), ones (marked_of all marks), ones all)

-- no mark, no block
pub none_marked : (k n : ℕ) → marked_from k (replicate n false) ≡ []
none_marked k zero = refl
none_marked k (suc n) = none_marked (k + 1) n

-- where all are marked, it is all
pub all_marked : (k : ℕ) (marks : List Bool) → ((i : ℕ) → i < length marks → get_or marks i false ≡ true) → marked_from k marks ≡ range_with_len k (length marks)
all_marked k [] each = refl
all_marked k (m ∷ ms) each = rw (each 0 (omega arith)) (ap (λ l. k ∷ l) (all_marked (k + 1) ms (λ i low. each (suc i) (omega arith))))

pub count_none : (n : ℕ) → count_by (λ mark. mark) (replicate n false) ≡ 0
count_none zero = refl
count_none (suc n) = let ih = count_none n in omega (arith, sum_by-cons (λ (b : Bool). cond b 1 0) false (replicate n false))

pub count_all : (marks : List Bool) → ((i : ℕ) → i < length marks → get_or marks i false ≡ true) → count_by (λ mark. mark) marks ≡ length marks
count_all [] each = refl
count_all (m ∷ ms) each =
    let ih = count_all ms (λ i low. each (suc i) (omega arith)) in
    let one : cond {A = ℕ} m 1 0 ≡ 1 = ap (λ (b : Bool). cond {A = ℕ} b 1 0) (each 0 (omega arith)) in
    omega (arith, sum_by-cons (λ (b : Bool). cond b 1 0) m ms)
