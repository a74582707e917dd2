-- Each step of a deque keeps its rule.
use Rattle.std.proofs.Common.{◌≡◌, ◌≢◌, ◌+◌, ◌-◌, ◌<◌, ◌≤◌, ℕ, zero, suc, List, [], ◌∷◌, ◌++◌, length, length-append, set, sym, refl, ap, ◌∙◌, subst, ⊎_elim, append_assoc, arith, min}
use Rattle.std.specs.List.{sum_by}
use Rattle.std.proofs.lemmas.List.Sums.{sum_by-append, sum_by-cons, sum_by_push}
use mathlib.Core.Option.{some, some-ne-none, some-injective}
use lib.ListN.{get_elem?}
use Rattle.crossbeam_deque.specs.Tasks.{Pushes, Takes, Finds, FindsFew, Forks, Merges, Learns}
use Rattle.crossbeam_deque.proofs.Lists.{at_set, at_snoc, set_here}
use Rattle.worker_seats.specs.declared.claims.Claim.{Claim}
use Rattle.worker_seats.specs.Claims.{claim, IsFair, Took, WasEmpty, Knows}

-- what a sum over the views is after a change of one
pub total_set : (f : Claim → ℕ) (views : List Claim) (port : ℕ) (v w : Claim) → get_elem? views port ≡ some v → sum_by f (set views port w) + f v ≡ sum_by f views + f w
total_set f [] port v w at = absurd (some-ne-none v (sym at))
total_set f (x ∷ xs) zero v w at =
    let same : f x ≡ f v = ap f (some-injective x v at) in
    omega (arith, sum_by-cons f w xs, sum_by-cons f x xs)
total_set f (x ∷ xs) (suc port) v w at =
    let ih = total_set f xs port v w at in
    omega (arith, sum_by-cons f x (set xs port w), sum_by-cons f x xs)

-- one view is a part of the sum
pub one_le : (f : Claim → ℕ) (views : List Claim) (port : ℕ) (v : Claim) → get_elem? views port ≡ some v → f v ≤ sum_by f views
one_le f [] port v at = absurd (some-ne-none v (sym at))
one_le f (x ∷ xs) zero v at = let same : f x ≡ f v = ap f (some-injective x v at) in omega (arith, sum_by-cons f x xs)
one_le f (x ∷ xs) (suc port) v at = let ih = one_le f xs port v at in omega (arith, sum_by-cons f x xs)

-- and so are two
pub two_le : (f : Claim → ℕ) (views : List Claim) (port other : ℕ) (v u : Claim) → other ≢ port → get_elem? views port ≡ some v → get_elem? views other ≡ some u → f v + f u ≤ sum_by f views
two_le f [] port other v u apart at at' = absurd (some-ne-none v (sym at))
two_le f (x ∷ xs) zero zero v u apart at at' = absurd (apart refl)
two_le f (x ∷ xs) zero (suc other) v u apart at at' = let same : f x ≡ f v = ap f (some-injective x v at) in let ih = one_le f xs other u at' in omega (arith, sum_by-cons f x xs)
two_le f (x ∷ xs) (suc port) zero v u apart at at' = let same : f x ≡ f u = ap f (some-injective x u at') in let ih = one_le f xs port v at in omega (arith, sum_by-cons f x xs)
two_le f (x ∷ xs) (suc port) (suc other) v u apart at at' = let ih = two_le f xs port other v u (λ e. apart (ap suc e)) at at' in omega (arith, sum_by-cons f x xs)

-- where one view has all of a sum, each other has none, and what is 0 where that is has all of its sum in the one view
pub only_one : (f g : Claim → ℕ) (views : List Claim) (port : ℕ) (v : Claim) → get_elem? views port ≡ some v → sum_by f views ≡ f v → ((j : ℕ) (u : Claim) → get_elem? views j ≡ some u → f u ≡ 0 → g u ≡ 0) → sum_by g views ≡ g v
only_one f g [] port v at is none = absurd (some-ne-none v (sym at))
only_one f g (x ∷ xs) zero v at is none =
    let same : x ≡ v = some-injective x v at in
    let gx : g x ≡ g v = ap g same in
    let fx : f x ≡ f v = ap f same in
    let rest = no_part f g xs (omega (arith, sum_by-cons f x xs)) (λ j u a. none (suc j) u a) in
    omega (arith, sum_by-cons g x xs)
  where
    no_part : (f g : Claim → ℕ) (views : List Claim) → sum_by f views ≡ 0 → ((j : ℕ) (u : Claim) → get_elem? views j ≡ some u → f u ≡ 0 → g u ≡ 0) → sum_by g views ≡ 0
    no_part f g [] is none = refl
    no_part f g (y ∷ ys) is none =
        let fy : f y ≡ 0 = omega (arith, sum_by-cons f y ys) in
        let gy = none zero y refl fy in
        let ih = no_part f g ys (omega (arith, sum_by-cons f y ys)) (λ j u a. none (suc j) u a) in
        omega (arith, sum_by-cons g y ys)
only_one f g (x ∷ xs) (suc port) v at is none =
    let le = one_le f xs port v at in
    let fx : f x ≡ 0 = omega (arith, sum_by-cons f x xs) in
    let gx = none zero x refl fx in
    let ih = only_one f g xs port v at (omega (arith, sum_by-cons f x xs)) (λ j u a. none (suc j) u a) in
    omega (arith, sum_by-cons g x xs)

-- what holds of each view holds after a change of one, if it holds of the new one
abbrev AllViews : (Claim → Type 0) → List Claim → Type 0
AllViews P views = (port : ℕ) (v : Claim) → get_elem? views port ≡ some v → P v

all_set : (Q : Claim → Type 0) (views : List Claim) (port : ℕ) (w : Claim) → Q w → ((j : ℕ) (u : Claim) → j ≢ port → get_elem? views j ≡ some u → Q u) → AllViews Q (set views port w)
all_set Q views port w new old j u e = ⊎_elim (λ (x : (j ≡ port) × (w ≡ u)). subst Q x.1 new) (λ (x : (j ≢ port) × (get_elem? views j ≡ some u)). old j u x.0 x.1) (at_set views port j w u e)

weigh_set : (h : ℕ → ℕ) (views : List Claim) (port : ℕ) (v w : Claim) (xs : List ℕ) → get_elem? views port ≡ some v → w.taken ≡ v.taken ++ xs
    → sum_by (λ u. sum_by h u.taken) (set views port w) ≡ sum_by (λ u. sum_by h u.taken) views + sum_by h xs
weigh_set h views port v w xs at is =
    let s = total_set (λ u. sum_by h u.taken) views port v w at in
    let e : sum_by h w.taken ≡ sum_by h v.taken + sum_by h xs = ap (sum_by h) is ∙ sum_by-append h v.taken xs in
    omega arith

-- a fresh deque, whose one pass stands for all
pub begins : (workers : ℕ) → IsFair workers [] (claim workers [] [] ∷ [])
begins workers = record {
  pushed = [];
  got = [];
  in_order = refl;
  all = omega (arith, sum_by-cons (λ (v : Claim). v.stands_for) (claim workers [] []) []);
  shared = λ h. omega (arith, sum_by-cons (λ (v : Claim). sum_by h v.taken) (claim workers [] []) []);
  idle = λ port v at none. first (λ (u : Claim). u.taken ≡ []) (claim workers [] []) refl port v at;
  knowing = λ port v at some_part. first (λ (u : Claim). u.pushed ≡ []) (claim workers [] []) refl port v at;
}
  where
    first : (P : Claim → Type 0) (u : Claim) → P u → (port : ℕ) (v : Claim) → get_elem? (u ∷ []) port ≡ some v → P v
    first P u p zero v at = subst P (some-injective u v at) p
    first P u p (suc port) v at = absurd (some-ne-none v (sym at))

-- a push by the pass that stands for all
pub pushes : (workers port : ℕ) (v : Claim) (xs : List ℕ) → 0 < workers → v.stands_for ≡ workers → Pushes (IsFair workers) port v xs (λ w. w ≡ claim v.stands_for (v.pushed ++ xs) v.taken)
pushes workers port v xs many whole items views fair at =
    let w : Claim = claim v.stands_for (v.pushed ++ xs) v.taken in
    let known : v.pushed ≡ fair.pushed = fair.knowing port v at (omega arith) in
    let n = total_set (λ u. u.stands_for) views port v w at in
    let t = fair.all in (
      w,
      record {
        pushed = fair.pushed ++ xs;
        got = fair.got;
        in_order = ap (λ l. l ++ xs) fair.in_order ∙ append_assoc fair.got items xs;
        all = omega arith;
        shared = λ h. (let s = total_set (λ u. sum_by h u.taken) views port v w at in let k = fair.shared h in omega arith);
        idle = all_at (λ u. u.stands_for ≡ 0 → u.taken ≡ []) (λ none. absurd (omega arith)) (λ j u other a. fair.idle j u a);
        knowing = all_at (λ u. 0 < u.stands_for → u.pushed ≡ fair.pushed ++ xs) (λ _. ap (λ l. l ++ xs) known)
            (λ j u other a part. absurd (let b = two_le (λ c. c.stands_for) views port j v u other at a in omega arith));
      },
      refl,
    )
  where
    all_at : (Q : Claim → Type 0) → Q (claim v.stands_for (v.pushed ++ xs) v.taken) → ((j : ℕ) (u : Claim) → j ≢ port → get_elem? views j ≡ some u → Q u)
        → (j : ℕ) (u : Claim) → get_elem? (set views port (claim v.stands_for (v.pushed ++ xs) v.taken)) j ≡ some u → Q u
    all_at Q new old = all_set Q views port (claim v.stands_for (v.pushed ++ xs) v.taken) new old

at_length : (views : List Claim) (port : ℕ) (v : Claim) → get_elem? views port ≡ some v → port < length views
at_length [] port v at = absurd (some-ne-none v (sym at))
at_length (x ∷ xs) zero v at = omega arith
at_length (x ∷ xs) (suc port) v at = let ih = at_length xs port v at in omega arith

ones : (xs : List ℕ) → sum_by (λ _. 1) xs ≡ length xs
ones [] = refl
ones (x ∷ xs) = let ih = ones xs in omega (arith, sum_by-cons (λ (_ : ℕ). 1) x xs)

both_ends : (views : List Claim) (r : Claim) (Q : Claim → Type 0) → Q r → ((j : ℕ) (u : Claim) → get_elem? views j ≡ some u → Q u) → (j : ℕ) (u : Claim) → get_elem? (views ++ r ∷ []) j ≡ some u → Q u
both_ends views r Q new old j u at = ⊎_elim (λ a. old j u a) (λ is. subst Q is new) (at_snoc views r u j at)

-- a pop or a steal
pub takes : (workers port : ℕ) (v : Claim) → 0 < v.stands_for → Takes (IsFair workers) port v 1 (Took v)
takes workers port v part xs items views _ _ fair at =
    let w : Claim = claim v.stands_for v.pushed (v.taken ++ xs) in
    let known : v.pushed ≡ fair.pushed = fair.knowing port v at part in
    let n = total_set (λ u. u.stands_for) views port v w at in
    let t = fair.all in
    let order : fair.pushed ≡ (fair.got ++ xs) ++ items = fair.in_order ∙ sym (append_assoc fair.got xs items) in
    let shared : (h : ℕ → ℕ) → sum_by (λ u. sum_by h u.taken) (set views port w) ≡ sum_by h (fair.got ++ xs) =
    (λ h. weigh_set h views port v w xs at refl ∙ (let k = fair.shared h in let a = sum_by-append h fair.got xs in omega arith)) in
    let here : get_elem? (set views port w) port ≡ some w = set_here views port w (at_length views port v at) in (
      w,
      record {
        pushed = fair.pushed;
        got = fair.got ++ xs;
        in_order = order;
        all = omega arith;
        shared = shared;
        idle = all_set (λ u. u.stands_for ≡ 0 → u.taken ≡ []) views port w (λ none. absurd (omega arith)) (λ j u other a. fair.idle j u a);
        knowing = all_set (λ u. 0 < u.stands_for → u.pushed ≡ fair.pushed) views port w (λ _. known) (λ j u other a. fair.knowing j u a);
      },
      record {
        takes = refl;
        pushed = λ h. (let p = ap (sum_by h) (known ∙ order) in let a = sum_by-append h (fair.got ++ xs) items in let b = sum_by-append h fair.got xs in omega arith);
        room =
            (let one = one_le (λ u. sum_by (λ _. 1) u.taken) (set views port w) port w here in
            let all = shared (λ _. 1) in
            let p = ap length known in
            let o = ap length order ∙ length-append (fair.got ++ xs) items in
            omega (arith, ones w.taken, ones (fair.got ++ xs)));
      },
    )

-- a pop or a steal that found nothing
pub finds : (workers port : ℕ) (v : Claim) → Finds (IsFair workers) port v (WasEmpty workers v)
finds workers port v views fair at = record { views = views; port = port; among = at; fair = fair }

pub finds_few : (workers flavor port : ℕ) (v : Claim) → flavor ≡ 0 → FindsFew (IsFair workers) (min flavor 1) port v (WasEmpty workers v)
finds_few workers flavor port v front items views few fair at =
    let most : min flavor 1 ≡ 0 = ap (λ k. min k 1) front in
    let none : items ≡ [] = nothing_in items (omega arith) in
    finds workers port v views (subst (λ l. IsFair workers l views) none fair) at
  where
    nothing_in : (xs : List ℕ) → length xs ≤ 0 → xs ≡ []
    nothing_in [] few = refl
    nothing_in (x ∷ xs) few = absurd (omega arith)

-- the parts of a pass are cut in two
pub forks : (workers port : ℕ) (v : Claim) → 1 < v.stands_for → Forks (IsFair workers) port v (claim (v.stands_for - 1) v.pushed v.taken) (claim 1 v.pushed [])
forks workers port v parts items views fair at =
    let l : Claim = claim (v.stands_for - 1) v.pushed v.taken in
    let r : Claim = claim 1 v.pushed [] in
    let vs : List Claim = set views port l in
    let known : v.pushed ≡ fair.pushed = fair.knowing port v at (omega arith) in
    let n = total_set (λ u. u.stands_for) views port v l at in
    let m = sum_by_push (λ (u : Claim). u.stands_for) vs r in
    let t = fair.all in
    record {
      pushed = fair.pushed;
      got = fair.got;
      in_order = fair.in_order;
      all = omega arith;
      shared = λ h. (let s = total_set (λ u. sum_by h u.taken) views port v l at in let q = sum_by_push (λ (u : Claim). sum_by h u.taken) vs r in let k = fair.shared h in omega arith);
      idle = both_ends vs r (λ u. u.stands_for ≡ 0 → u.taken ≡ []) (λ none. refl) (all_set (λ u. u.stands_for ≡ 0 → u.taken ≡ []) views port l (λ none. absurd (omega arith)) (λ j u other a. fair.idle j u a));
      knowing = both_ends vs r (λ u. 0 < u.stands_for → u.pushed ≡ fair.pushed) (λ _. known) (all_set (λ u. 0 < u.stands_for → u.pushed ≡ fair.pushed) views port l (λ _. known) (λ j u other a. fair.knowing j u a));
    }

-- two passes are joined
pub merges : (workers port : ℕ) (v : Claim) (other : ℕ) (u : Claim) → 0 < v.stands_for
    → Merges (IsFair workers) port v other u (claim (v.stands_for + u.stands_for) v.pushed (v.taken ++ u.taken)) (claim 0 [] [])
merges workers port v other u part items views fair at apart at' =
    let both : Claim = claim (v.stands_for + u.stands_for) v.pushed (v.taken ++ u.taken) in
    let spent : Claim = claim 0 [] [] in
    let vs : List Claim = set views port both in
    let n = total_set (λ c. c.stands_for) views port v both at in
    let m = total_set (λ c. c.stands_for) vs other u spent at' in
    let t = fair.all in
    record {
      pushed = fair.pushed;
      got = fair.got;
      in_order = fair.in_order;
      all = omega arith;
      shared = λ h.
          (let s = total_set (λ c. sum_by h c.taken) views port v both at in
          let q = total_set (λ c. sum_by h c.taken) vs other u spent at' in
          let a = sum_by-append h v.taken u.taken in
          let k = fair.shared h in
          omega arith);
      idle = all_set (λ c. c.stands_for ≡ 0 → c.taken ≡ []) vs other spent (λ none. refl)
          (all_but (λ c. c.stands_for ≡ 0 → c.taken ≡ []) (λ none. absurd (omega arith)) (λ j c a. fair.idle j c a));
      knowing = all_set (λ c. 0 < c.stands_for → c.pushed ≡ fair.pushed) vs other spent (λ some_part. absurd (omega arith))
          (all_but (λ c. 0 < c.stands_for → c.pushed ≡ fair.pushed) (λ _. fair.knowing port v at part) (λ j c a. fair.knowing j c a));
    }
  where
    all_but : (Q : Claim → Type 0) → Q (claim (v.stands_for + u.stands_for) v.pushed (v.taken ++ u.taken)) → ((j : ℕ) (c : Claim) → get_elem? views j ≡ some c → Q c)
        → (j : ℕ) (c : Claim) → j ≢ other → get_elem? (set views port (claim (v.stands_for + u.stands_for) v.pushed (v.taken ++ u.taken))) j ≡ some c → Q c
    all_but Q new old j c _ a = all_set Q views port (claim (v.stands_for + u.stands_for) v.pushed (v.taken ++ u.taken)) new (λ j u _ b. old j u b) j c a

-- what the pass that stands for all learns
pub learns : (workers port : ℕ) (v : Claim) → 0 < workers → v.stands_for ≡ workers → Learns (IsFair workers) port v (Knows v)
learns workers port v many whole items views fair at = record {
  got = fair.got;
  in_order = fair.knowing port v at (omega arith) ∙ fair.in_order;
  shared = λ h.
      sym (only_one (λ u. u.stands_for) (λ u. sum_by h u.taken) views port v at (let t = fair.all in omega arith) (λ j u a none. ap (sum_by h) (fair.idle j u a none) ∙ refl)) ∙ fair.shared h;
}
