-- When every worker has its end mark of a deque, nothing is left there.
use Rattle.std.proofs.Common.{◌≡◌, ◌%◌, ◌<◌, ◌≤◌, ℕ, eqb, List, [], ◌∷◌, ◌++◌, length, length-append, append-nil, replicate, sym, refl, ap, ◌∙◌, arith}
use Rattle.std.specs.List.{sum_by, range_with_len}
use Rattle.std.proofs.lemmas.List.{length-replicate}
use Rattle.std.proofs.lemmas.List.Sums.{sum_by-cons, count_by-le-length}
use Rattle.worker_seats.specs.declared.claims.Claim.{Claim}
use Rattle.worker_seats.specs.Claims.{Knows, one_at}
use Rattle.worker_seats.specs.Lanes.{pushed_to, blocks_to}
use Rattle.worker_seats.proofs.LaneFacts.{at_other, at_same, filter_le, range_none}

none_there : (blocks : ℕ) (xs got : List ℕ) (x : ℕ) → sum_by (one_at blocks) (x ∷ xs) ≡ 0 → (x ≡ blocks → ⊥)
none_there blocks xs got x none e = absurd (let one : one_at blocks x ≡ 1 = ap (λ n. one_at blocks n) e ∙ at_same blocks in omega (arith, sum_by-cons (one_at blocks) x xs))

no_more : (xs : List ℕ) → length xs ≡ 0 → xs ≡ []
no_more [] e = refl
no_more (x ∷ xs) e = absurd (omega arith)

-- what stands after as many end marks as there are is nothing
pub nothing_left : (blocks workers : ℕ) (front got items : List ℕ) → 0 < workers → sum_by (one_at blocks) front ≡ 0 → front ++ replicate workers blocks ≡ got ++ items → workers ≤ sum_by (one_at blocks) got → items ≡ []
nothing_left blocks workers [] got items some none is marks =
    let n = ap length is ∙ length-append got items in
    no_more items (omega (arith, length-replicate workers blocks, count_by-le-length (λ y. eqb y blocks) got))
nothing_left blocks workers (x ∷ front) [] items some none is marks = absurd (omega arith)
nothing_left blocks workers (x ∷ front) (y ∷ got) items some none is marks =
    let same : x ≡ y = cc in
    let rest : front ++ replicate workers blocks ≡ got ++ items = cc in
    let zero_at : one_at blocks y ≡ 0 = at_other blocks y (λ e. none_there blocks front got x none (same ∙ e)) in
    nothing_left blocks workers front got items some (omega (arith, sum_by-cons (one_at blocks) x front)) rest (omega (arith, sum_by-cons (one_at blocks) y got))

blocks_below : (workers blocks deque : ℕ) → sum_by (one_at blocks) (blocks_to workers blocks deque) ≡ 0
blocks_below workers blocks deque =
    let a = filter_le (one_at blocks) (λ b. eqb (b % workers) deque) (range_with_len 0 blocks) in
    let b = range_none blocks 0 blocks (omega arith) in
    omega arith

-- a pass that stands for all, and took an end mark for each worker, took all
pub settled : (workers blocks deque : ℕ) (v : Claim) (items : List ℕ) → 0 < workers → v.pushed ≡ pushed_to workers blocks deque → Knows v items → workers ≤ sum_by (one_at blocks) v.taken
    → (h : ℕ → ℕ) → sum_by h v.taken ≡ sum_by h (pushed_to workers blocks deque)
settled workers blocks deque v items some pushed knows marks h =
    let order : blocks_to workers blocks deque ++ replicate workers blocks ≡ knows.got ++ items = sym pushed ∙ knows.in_order in
    let none : items ≡ [] = nothing_left blocks workers (blocks_to workers blocks deque) knows.got items some (blocks_below workers blocks deque) order (let s = knows.shared (one_at blocks) in omega arith) in
    let whole : pushed_to workers blocks deque ≡ knows.got = order ∙ ap (λ l. knows.got ++ l) none ∙ append-nil knows.got in
    knows.shared h ∙ sym (ap (sum_by h) whole)
