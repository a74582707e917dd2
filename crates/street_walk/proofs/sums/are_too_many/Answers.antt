use Rattle.std.proofs.Common.{◌≡◌, ◌≤◌, ◌<◌, ◌*◌, ℕ, length, refl, sym, ap, ◌∙◌, arith, inl, inr, subst, true, false}
use Rattle.std.specs.Prelude.{nat_lt}
use mathlib.Core.Bool.{true≢false}
use Rattle.std.proofs.lemmas.Bool.{cases_lt}
use Rattle.card_sets.specs.State.{State, state_of}
use Rattle.runout_ranges.specs.Shapes.{IsShapeOf, runouts_of}
use Rattle.runout_ranges.specs.declared.shapes.Shape.{Shape}
use Rattle.showdown_tally.specs.Tallies.{runouts_after}
use Rattle.runout_ranges.specs.declared.limits.TheConstants.{RUNOUT_MAX}
use Rattle.job_blocks.proofs.CallerLemmas.{of_state}
use Rattle.street_walk.specs.Streets.{divisions}
use Rattle.street_walk.proofs.EnoughAfter.{above_all}
use Rattle.street_walk.proofs.sums.are_too_many.Goals as goal

-- the product of two calls, in the words of the definition
product_of : (s : State) (shape : Shape) (d r : ℕ) → IsShapeOf s shape → d ≡ divisions s → r ≡ length (runouts_of shape) → d * r ≡ divisions s * length (runouts_after s)
product_of s shape d r is e f = ap (λ n. n * r) e ∙ ap (λ n. divisions s * n) (of_state (λ all. r ≡ length all) s shape is f)

not_most : (a b : ℕ) → ¬ (a ≤ b) → b < a
not_most a b h = elim (cases_lt b a) [ inl l ↦ l | inr g ↦ absurd (h g) ]

less_of : (a b : ℕ) → nat_lt a b ≡ true → a < b
less_of a b h = elim (cases_lt a b) [ inl l ↦ l | inr g ↦ let f : nat_lt a b ≡ false = grind arith in absurd (true≢false (sym h ∙ f)) ]

test_of : (a b : ℕ) → a < b → nat_lt a b ≡ true
test_of a b l = grind arith

pub returns-in_default : goal.returns-in_default
returns-in_default c =
    let s = state_of c.args.known.now in
    (λ t. above_all s (of_state (λ all. RUNOUT_MAX < length all) s c.args.whole.now c.requires.whole (not_most _ _ c.in_default.ensures)), λ a. refl)

pub returns : goal.returns
returns c =
    let s = state_of c.args.known.now in
    let all : c.in-Some.all ≡ divisions s * length (runouts_after s) = c.in-Some.ensures.1 ∙ product_of s c.args.whole.now c.divisions.result c.in-Ok.runouts c.requires.whole c.divisions.ensures c.in-Ok.ensures.1 in
    (λ t. subst (λ n. RUNOUT_MAX < n) all (less_of RUNOUT_MAX c.in-Some.all t), λ a. test_of RUNOUT_MAX c.in-Some.all (subst (λ n. RUNOUT_MAX < n) (sym all) a))
