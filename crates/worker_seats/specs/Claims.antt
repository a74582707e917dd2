-- The rule over one deque.
use Rattle.std.specs.Prelude.{◌≡◌, ◌<◌, ◌≤◌, ℕ, ◌==◌, if◌then◌else◌, List, [], ◌++◌, length}
use Rattle.std.specs.List.{sum_by}
use mathlib.Core.Option.{some}
use lib.ListN.{get_elem?}
use Rattle.worker_seats.specs.declared.claims.Claim.{Claim}

abbrev pub claim : ℕ → List ℕ → List ℕ → Claim
claim stands_for pushed taken = record { stands_for = stands_for; pushed = pushed; taken = taken }

-- 1 at a number, and 0 at every other
abbrev pub one_at : ℕ → ℕ → ℕ
one_at number other = if other == number then 1 else 0

-- how often a number stands in a list
abbrev pub times : ℕ → List ℕ → ℕ
times number list = sum_by (one_at number) list

-- what was pushed is what was taken, in order, and then what the deque holds. What was taken is what the passes took, each once, however it is weighed. The passes stand for all workers
pub record IsFair (workers : ℕ) (items : List ℕ) (views : List Claim) : Type 0 where
  pub pushed : List ℕ
  pub got : List ℕ
  pub in_order : pushed ≡ got ++ items
  pub all : sum_by (λ v. v.stands_for) views ≡ workers
  pub shared : (h : ℕ → ℕ) → sum_by (λ v. sum_by h v.taken) views ≡ sum_by h got
  pub idle : (port : ℕ) (v : Claim) → get_elem? views port ≡ some v → v.stands_for ≡ 0 → v.taken ≡ []
  pub knowing : (port : ℕ) (v : Claim) → get_elem? views port ≡ some v → 0 < v.stands_for → v.pushed ≡ pushed

-- what a pass took, and that it is one of those pushed
pub record Took (v : Claim) (xs : List ℕ) (w : Claim) : Type 0 where
  pub takes : w ≡ claim v.stands_for v.pushed (v.taken ++ xs)
  pub pushed : (h : ℕ → ℕ) → sum_by h xs ≤ sum_by h v.pushed
  pub room : length w.taken ≤ length v.pushed

-- the deque was empty at one moment: what the passes had taken then, this one's among them, is all that was pushed
pub record WasEmpty (workers : ℕ) (v : Claim) : Type 0 where
  pub views : List Claim
  pub port : ℕ
  pub among : get_elem? views port ≡ some v
  pub fair : IsFair workers [] views

-- what a pass that stands for all workers knows
pub record Knows (v : Claim) (items : List ℕ) : Type 0 where
  pub got : List ℕ
  pub in_order : v.pushed ≡ got ++ items
  pub shared : (h : ℕ → ℕ) → sum_by h v.taken ≡ sum_by h got
