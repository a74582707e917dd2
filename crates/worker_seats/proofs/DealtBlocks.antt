-- Each block stands in one deque, and is taken once.
use Rattle.std.proofs.Common.{◌≡◌, ◌+◌, ◌%◌, ◌<◌, ◌≤◌, ℕ, zero, suc, Bool, true, false, cond, eqb, replicate, sym, refl, ap, ◌∙◌, subst, ⊎_elim, arith}
use Rattle.std.specs.List.{sum_by, filter, range_with_len}
use Rattle.std.proofs.lemmas.Nat.{mod_below}
use Rattle.std.proofs.lemmas.Bool.{cases_Bool, cases_lt, cases_eq, eq-eqb, ne_eqb}
use Rattle.std.proofs.lemmas.List.Sums.{sum_by-append, sum_by-cons}
use Rattle.worker_seats.specs.Claims.{one_at, times}
use Rattle.worker_seats.specs.Lanes.{pushed_to, blocks_to}
use Rattle.worker_seats.specs.Sittings.{Sitting, taken_weight, times_taken, IsFreshSitting, IsShared}
use Rattle.worker_seats.proofs.LaneFacts.{at_other, at_same, filter_le, marks_none}

after : (a m : ℕ) → (m ≡ a → ⊥) → a ≤ m → a + 1 ≤ m
after a m ne low = ⊎_elim (λ (l : m < a + 1). absurd (ne (omega arith))) (λ (h : a + 1 ≤ m). h) (cases_lt m (a + 1))

range_past : (x a n : ℕ) → x < a → times x (range_with_len a n) ≡ 0
range_past x a zero low = refl
range_past x a (suc n) low =
    let ih = range_past x (a + 1) n (omega arith) in
    let no = at_other x a (λ e. absurd (omega arith)) in
    omega (arith, sum_by-cons (one_at x) a (range_with_len (a + 1) n))

first_kept : (p : ℕ → Bool) (a n : ℕ) → times a (filter p (range_with_len a (suc n))) ≡ cond {A = ℕ} (p a) 1 0
first_kept p a n =
    let le = filter_le (one_at a) p (range_with_len (a + 1) n) in
    let past = range_past a (a + 1) n (omega arith) in
    let one = at_same a in
    ⊎_elim (λ (is : p a ≡ true). rw is (omega (arith, sum_by-cons (one_at a) a (filter p (range_with_len (a + 1) n)))))
    (λ (is : p a ≡ false). rw is (omega arith)) (cases_Bool (p a))

-- of the numbers of a range, a filter keeps one once, or not at all
kept_once : (p : ℕ → Bool) (x a n : ℕ) → a ≤ x → x < a + n → times x (filter p (range_with_len a n)) ≡ cond {A = ℕ} (p x) 1 0
kept_once p x a zero low high = absurd (omega arith)
kept_once p x a (suc n) low high = ⊎_elim
    (λ (e : x ≡ a). subst (λ y. times y (filter p (range_with_len a (suc n))) ≡ cond {A = ℕ} (p y) 1 0) (sym e) (first_kept p a n))
    (λ (ne : x ≡ a → ⊥).
    let ih = kept_once p x (a + 1) n (after a x ne low) (omega arith) in
    let no = at_other x a (λ e. ne (sym e)) in
    ⊎_elim (λ (is : p a ≡ true). rw is (omega (arith, sum_by-cons (one_at x) a (filter p (range_with_len (a + 1) n)))))
    (λ (is : p a ≡ false). rw is ih) (cases_Bool (p a)))
    (cases_eq x a)

-- a block is pushed to the deque of its number modulo the workers
pub one_deque : (workers blocks deque block : ℕ) → block < blocks → times block (pushed_to workers blocks deque) ≡ cond {A = ℕ} (eqb (block % workers) deque) 1 0
one_deque workers blocks deque block low =
    let all = sum_by-append (one_at block) (blocks_to workers blocks deque) (replicate workers blocks) in
    let marks = marks_none block blocks workers (λ e. absurd (omega arith)) in
    let here = kept_once (λ b. eqb (b % workers) deque) block 0 blocks (omega arith) (omega arith) in
    omega arith

none_picked : (f : ℕ → ℕ) (m a n : ℕ) → m < a → ((d : ℕ) → a ≤ d → d < a + n → f d ≡ cond {A = ℕ} (eqb m d) 1 0) → sum_by f (range_with_len a n) ≡ 0
none_picked f m a zero low each = refl
none_picked f m a (suc n) low each =
    let ih = none_picked f m (a + 1) n (omega arith) (λ d from to. each d (omega arith) (omega arith)) in
    let no : f a ≡ 0 = each a (omega arith) (omega arith) ∙ ap (λ (b : Bool). cond {A = ℕ} b 1 0) (ne_eqb m a (λ e. absurd (omega arith))) in
    omega (arith, sum_by-cons f a (range_with_len (a + 1) n))

-- what is one at one number of a range and else none has one for a sum
one_picked : (f : ℕ → ℕ) (m a n : ℕ) → a ≤ m → m < a + n → ((d : ℕ) → a ≤ d → d < a + n → f d ≡ cond {A = ℕ} (eqb m d) 1 0) → sum_by f (range_with_len a n) ≡ 1
one_picked f m a zero low high each = absurd (omega arith)
one_picked f m a (suc n) low high each = ⊎_elim
    (λ (e : m ≡ a).
    let rest = none_picked f m (a + 1) n (omega arith) (λ d from to. each d (omega arith) (omega arith)) in
    let one : f a ≡ 1 = each a (omega arith) (omega arith) ∙ ap (λ (b : Bool). cond {A = ℕ} b 1 0) (eq-eqb m a e) in
    omega (arith, sum_by-cons f a (range_with_len (a + 1) n)))
    (λ (ne : m ≡ a → ⊥).
    let ih = one_picked f m (a + 1) n (after a m ne low) (omega arith) (λ d from to. each d (omega arith) (omega arith)) in
    let no : f a ≡ 0 = each a (omega arith) (omega arith) ∙ ap (λ (b : Bool). cond {A = ℕ} b 1 0) (ne_eqb m a ne) in
    omega (arith, sum_by-cons f a (range_with_len (a + 1) n)))
    (cases_eq m a)

-- so it is taken once
pub taken_once : (workers blocks block : ℕ) (old new : Sitting) → 0 < workers → block < blocks → IsFreshSitting workers blocks old → IsShared workers blocks old new → times_taken workers block new ≡ 1
taken_once workers blocks block old new some low fresh shared =
    let whole : workers ≡ 0 + workers = omega arith in
    one_picked (λ deque. taken_weight (one_at block) deque new) (block % workers) 0 workers (omega arith) (subst (λ n. block % workers < n) whole (mod_below block workers some))
    (λ deque from to. shared.once deque block (omega arith) low ∙ ap (times block) (shared.pushed deque (omega arith) ∙ fresh.pushed deque (omega arith)) ∙ one_deque workers blocks deque block low)
