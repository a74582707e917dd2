-- The best of some fives is one of them, and none is worth more.
use Rattle.std.proofs.Common.{◌≡◌, ℕ, suc, zero, ◌≤◌, ◌<◌, List, ◌∷◌, [], refl, ap, ◌∙◌, sym, arith, Bool, true, false, cond, length, inl, inr, map}
use Rattle.std.specs.Prelude.{slice_index_or, Contains}
use Rattle.std.specs.Ordering.{nat_cmp, is_lt}
use Rattle.std.specs.Cmp.{nat_cmp_is}
use Rattle.std.specs.Cmp.Lexicographic.{slice_cmp}
use Rattle.std.specs.declared.cmp.Ordering.TheVariants.{Less, Equal, Greater}
use Rattle.std.proofs.lemmas.Bool.{cases_order}
use mathlib.Core.Bool.{true≢false}
use Rattle.card_sets.specs.Choose.{choose}
use Rattle.rank_high.specs.High.{value_of, high, greatest_of, best_high}
use Rattle.rank_laws.specs.HighHands.{IsBest}
use Rattle.rank_high.proofs.CallerLemmas.{IsHighList, value_of-order}
use Rattle.card_sets.proofs.CallerLemmas.{greatest, choose-some}
use Rattle.rank_high.proofs.CallerLemmas.{AreHighLists, alone, fives, greatest_of-IsHighList, value_of-greatest_of}

one_of : (b : Bool) (l m : List ℕ) (ls : List (List ℕ)) → Contains ls m → Contains (l ∷ ls) (cond b m l)
one_of true l m ls (k, h, e) = (suc k, omega arith, e)
one_of false l m ls h = (0, omega arith, refl)

greatest_of-chosen : (l : List ℕ) (ls : List (List ℕ)) → AreHighLists (l ∷ ls) → Contains (l ∷ ls) (greatest_of (l ∷ ls))
greatest_of-chosen l [] p = (0, omega arith, sym (alone l p.0))
greatest_of-chosen l (m ∷ ms) p = one_of (is_lt (slice_cmp nat_cmp l (greatest_of (m ∷ ms)))) l (greatest_of (m ∷ ms)) (m ∷ ms) (greatest_of-chosen m ms p.1)

at_most : (ls : List (List ℕ)) (k : ℕ) (d : List ℕ) → k < length ls → value_of (slice_index_or ls k d) ≤ greatest (map value_of ls)
at_most [] k d h = absurd (omega arith)
at_most (l ∷ ls) zero d h = omega arith
at_most (l ∷ ls) (suc k) d h = let rest : value_of (slice_index_or ls k d) ≤ greatest (map value_of ls) = at_most ls k d (omega arith) in omega arith

high_at : (ls : List (List ℕ)) (k : ℕ) (d : List ℕ) → AreHighLists ls → k < length ls → IsHighList (slice_index_or ls k d)
high_at [] k d p h = absurd (omega arith)
high_at (l ∷ ls) zero d p h = p.0
high_at (l ∷ ls) (suc k) d p h = high_at ls k d p.1 (omega arith)

pub not_less : (a b : ℕ) → b ≤ a → nat_cmp a b ≡ Less → ⊥
not_less a b h e = true≢false (sym (ap is_lt e) ∙ not_lt)
  where
    not_lt : is_lt (nat_cmp a b) ≡ false
    not_lt = elim (cases_order a b) [
      | inl same ↦ ap is_lt (sym (nat_cmp_is a b Equal same))
      | inr o ↦ elim o [
        | inl l ↦ absurd (omega arith)
        | inr g ↦ ap is_lt (sym (nat_cmp_is a b Greater g))
      ]
    ]

greatest_of-unbeaten : (ls : List (List ℕ)) → AreHighLists ls → (k : ℕ) (d : List ℕ) → k < length ls → slice_cmp nat_cmp (greatest_of ls) (slice_index_or ls k d) ≡ Less → ⊥
greatest_of-unbeaten [] p k d h max-less = absurd (omega arith)
greatest_of-unbeaten (l ∷ ls) p k d h max-less =
    let order : nat_cmp (value_of (greatest_of (l ∷ ls))) (value_of (slice_index_or (l ∷ ls) k d)) ≡ slice_cmp nat_cmp (greatest_of (l ∷ ls)) (slice_index_or (l ∷ ls) k d) =
    value_of-order (greatest_of (l ∷ ls)) (slice_index_or (l ∷ ls) k d) (greatest_of-IsHighList l ls p.0 p.1) (high_at (l ∷ ls) k d p h) in
    not_less (value_of (greatest_of (l ∷ ls))) (value_of (slice_index_or (l ∷ ls) k d)) (omega (arith, value_of-greatest_of (l ∷ ls) p, at_most (l ∷ ls) k d h)) (order ∙ max-less)

greatest_of-IsBest : (ls : List (List ℕ)) (l : List ℕ) (rest : List (List ℕ)) → ls ≡ l ∷ rest → AreHighLists ls → Contains ls (greatest_of ls)
greatest_of-IsBest [] l rest e p = absurd (omega (arith, ap length e))
greatest_of-IsBest (m ∷ ms) l rest e p = greatest_of-chosen m ms p

pub best_high-IsBest : (cards : List ℕ) → 5 ≤ length cards → IsBest cards (best_high cards)
unfolding best_high
best_high-IsBest cards h =
    let some = choose-some 5 cards h in
    record {
      chosen = greatest_of-IsBest (map high (choose 5 cards)) (high some.0) (map high some.1) (ap (λ ls. map high ls) some.2) (fives cards);
      unbeaten = greatest_of-unbeaten (map high (choose 5 cards)) (fives cards);
    }
