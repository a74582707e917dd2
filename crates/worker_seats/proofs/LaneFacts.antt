-- What a number that was taken from a deque can be.
use Rattle.std.proofs.Common.{◌≡◌, ◌+◌, ◌-◌, ◌%◌, ◌<◌, ◌≤◌, ℕ, zero, suc, Bool, true, false, cond, eqb, List, [], ◌∷◌, ◌++◌, length, length-append, append-nil, replicate, ◌||◌, sym, refl, ap, ◌∙◌, ⊎_elim, arith}
use Rattle.std.specs.List.{sum_by, filter, range_with_len}
use Rattle.std.proofs.lemmas.Bool.{cases_Bool, cases_eq, eq-eqb, ne_eqb}
use Rattle.std.proofs.lemmas.List.Sums.{sum_by-append, sum_by-cons}
use Rattle.worker_seats.specs.declared.claims.Claim.{Claim}
use Rattle.worker_seats.specs.Claims.{Took, one_at}
use Rattle.worker_seats.specs.Lanes.{pushed_to, blocks_to, noted, is_in}
use Rattle.worker_seats.specs.Reaches.{StaysOf}
use Rattle.worker_seats.specs.declared.reaches.Reach.{Reach}

pub filter_le : (h : ℕ → ℕ) (p : ℕ → Bool) (xs : List ℕ) → sum_by h (filter p xs) ≤ sum_by h xs
filter_le h p [] = omega arith
filter_le h p (x ∷ xs) =
    let ih = filter_le h p xs in
    ⊎_elim (λ (is : p x ≡ true). rw is (omega (arith, sum_by-cons h x xs, sum_by-cons h x (filter p xs))))
    (λ (is : p x ≡ false). rw is (omega (arith, sum_by-cons h x xs))) (cases_Bool (p x))

pub at_other : (x y : ℕ) → (y ≡ x → ⊥) → one_at x y ≡ 0
at_other x y ne = ap (λ (b : Bool). cond {A = ℕ} b 1 0) (ne_eqb y x ne)

pub at_same : (x : ℕ) → one_at x x ≡ 1
at_same x = ap (λ (b : Bool). cond {A = ℕ} b 1 0) (eq-eqb x x refl)

pub range_none : (x a n : ℕ) → a + n ≤ x → sum_by (one_at x) (range_with_len a n) ≡ 0
range_none x a zero high = refl
range_none x a (suc n) high =
    let ih = range_none x (a + 1) n (omega arith) in
    let no = at_other x a (λ e. absurd (omega arith)) in
    omega (arith, sum_by-cons (one_at x) a (range_with_len (a + 1) n))

pub marks_none : (x m n : ℕ) → (m ≡ x → ⊥) → sum_by (one_at x) (replicate n m) ≡ 0
marks_none x m zero ne = refl
marks_none x m (suc n) ne = let ih = marks_none x m n ne in let no = at_other x m ne in omega (arith, sum_by-cons (one_at x) m (replicate n m))

-- what is pushed is a block, or else an end mark
pub end_mark : (workers blocks deque x : ℕ) (v w : Claim) → v.pushed ≡ pushed_to workers blocks deque → Took v (x ∷ []) w → blocks ≤ x → x ≡ blocks
end_mark workers blocks deque x v w is took high = ⊎_elim (λ (e : blocks ≡ x). sym e)
    (λ (ne : blocks ≡ x → ⊥).
    let one = took.pushed (one_at x) in
    let all = ap (sum_by (one_at x)) is ∙ sum_by-append (one_at x) (blocks_to workers blocks deque) (replicate workers blocks) in
    let a = filter_le (one_at x) (λ b. eqb (b % workers) deque) (range_with_len 0 blocks) in
    let b = range_none x 0 blocks (omega arith) in
    let c = marks_none x blocks workers ne in
    let s = at_same x in
    absurd (omega (arith, sum_by-cons (one_at x) x [])))
    (cases_eq blocks x)

-- the end mark after what was taken
pub ends : (blocks x : ℕ) (claimed taken : List ℕ) (ended : Bool) → claimed ≡ noted blocks taken ended → ended ≡ false → x ≡ blocks → claimed ++ x ∷ [] ≡ noted blocks taken true
ends blocks x claimed taken ended is unended mark =
    let bare : noted blocks taken ended ≡ taken = ap (noted blocks taken) unended ∙ append-nil taken in
    ap (λ l. l ++ x ∷ []) (is ∙ bare) ∙ ap (λ y. taken ++ y ∷ []) mark

pub stays_on : {N : Type 0} (a b c : Reach N) → StaysOf a b → StaysOf b c → StaysOf a c
stays_on a b c first then = record { own = λ deque is. then.own deque (first.own deque is); other = λ deque is. then.other deque (first.other deque is) }

or_assoc : (a b c : Bool) → ((a || b) || c) ≡ (a || (b || c))
or_assoc true b c = refl
or_assoc false b c = refl

pub is_in_more : (b x : ℕ) (xs : List ℕ) → is_in b (xs ++ x ∷ []) ≡ (is_in b xs || eqb b x)
is_in_more b x [] = elim (eqb b x) as (λ t. (t || false) ≡ t) [ true ↦ refl | false ↦ refl ]
is_in_more b x (y ∷ xs) = ap (λ t. eqb b y || t) (is_in_more b x xs) ∙ sym (or_assoc (eqb b y) (is_in b xs) (eqb b x))

pub handed_more : (first was now : Bool) (b block : ℕ) (old new : List ℕ) → new ≡ old ++ block ∷ [] → was ≡ (first || is_in b old) → now ≡ (was || eqb b block) → now ≡ (first || is_in b new)
handed_more first was now b block old new is before step =
    step ∙ ap (λ t. t || eqb b block) before ∙ or_assoc first (is_in b old) (eqb b block) ∙ ap (λ t. first || t) (sym (ap (is_in b) is ∙ is_in_more b block old))

range_more : (a n : ℕ) → range_with_len a (suc n) ≡ range_with_len a n ++ (a + n) ∷ []
range_more a zero = let e : a ≡ a + 0 = omega arith in ap (λ k. k ∷ []) e
range_more a (suc n) = let e : a + 1 + n ≡ a + suc n = omega arith in ap (λ l. a ∷ l) (range_more (a + 1) n ∙ ap (λ k. range_with_len (a + 1) n ++ k ∷ []) e)

filter_more : (p : ℕ → Bool) (xs : List ℕ) (x : ℕ) → filter p (xs ++ x ∷ []) ≡ filter p xs ++ cond (p x) (x ∷ []) []
filter_more p [] x = elim (p x) as (λ b. cond b (x ∷ []) [] ≡ cond b (x ∷ []) []) [ true ↦ refl | false ↦ refl ]
filter_more p (y ∷ xs) x = elim (p y) as (λ b. cond b (y ∷ filter p (xs ++ x ∷ [])) (filter p (xs ++ x ∷ [])) ≡ cond b (y ∷ filter p xs) (filter p xs) ++ cond (p x) (x ∷ []) [])
    [ true ↦ ap (λ l. y ∷ l) (filter_more p xs x) | false ↦ filter_more p xs x ]

-- one block more
pub blocks_more : (workers block deque : ℕ) → blocks_to workers (block + 1) deque ≡ blocks_to workers block deque ++ cond (eqb (block % workers) deque) (block ∷ []) []
blocks_more workers block deque =
    let e : block + 1 ≡ suc block = omega arith in
    let z : 0 + block ≡ block = omega arith in
    ap (filter (λ b. eqb (b % workers) deque)) (ap (range_with_len 0) e ∙ range_more 0 block ∙ ap (λ k. range_with_len 0 block ++ k ∷ []) z) ∙ filter_more (λ b. eqb (b % workers) deque) (range_with_len 0 block) block

pub blocks_grow : (workers deque block more : ℕ) → length (blocks_to workers block deque) ≤ length (blocks_to workers (block + more) deque)
blocks_grow workers deque block zero = let e : block + 0 ≡ block = omega arith in let d = ap (λ b. length (blocks_to workers b deque)) e in omega arith
blocks_grow workers deque block (suc more) =
    let ih = blocks_grow workers deque block more in
    let e : block + suc more ≡ block + more + 1 = omega arith in
    let d = ap (λ b. length (blocks_to workers b deque)) e in
    let m = ap length (blocks_more workers (block + more) deque) ∙ length-append (blocks_to workers (block + more) deque) (cond (eqb ((block + more) % workers) deque) ((block + more) ∷ []) []) in
    omega arith

pub room_here : (workers deque block blocks : ℕ) → block < blocks → eqb (block % workers) deque ≡ true → length (blocks_to workers block deque) < length (pushed_to workers blocks deque)
room_here workers deque block blocks low here =
    let m = ap length (blocks_more workers block deque ∙ ap (λ b. blocks_to workers block deque ++ cond b (block ∷ []) []) here) ∙ length-append (blocks_to workers block deque) (block ∷ []) in
    let g = blocks_grow workers deque (block + 1) (blocks - (block + 1)) in
    let e : block + 1 + (blocks - (block + 1)) ≡ blocks = omega arith in
    let d = ap (λ b. length (blocks_to workers b deque)) e in
    omega (arith, length-append (blocks_to workers blocks deque) (replicate workers blocks))
