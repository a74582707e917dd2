-- The least of some lists by the greatest of their numbers turned round.
use Rattle.std.proofs.Common.{◌≡◌, ℕ, ◌-◌, ◌^◌, ◌≤◌, ◌<◌, List, ◌∷◌, [], refl, ap, ◌∙◌, sym, arith, Bool, true, false, cond, length, inl, inr, map, max, Some, None}
use Rattle.std.specs.Option.{option_map}
use Rattle.std.specs.Cmp.Lexicographic.{slice_cmp}
use Rattle.std.specs.Cmp.{nat_cmp_is}
use Rattle.std.specs.Ordering.{nat_cmp, is_lt}
use Rattle.std.specs.declared.cmp.Ordering.TheVariants.{Less, Equal, Greater}
use Rattle.std.proofs.lemmas.Bool.{cases_order}
use Rattle.rank_high.specs.High.{digits_from}
use Rattle.rank_high.proofs.CallerLemmas.{digits_from-lt}
use Rattle.card_sets.proofs.CallerLemmas.{greatest}
use Rattle.rank_low.specs.Low.{ace_number, lesser, least_of}
use Rattle.rank_low.proofs.AceLists.{IsAceList, ace-order, number-is}

-- a number turned round, so that greater is better
abbrev pub turned : ℕ → ℕ
turned n = 4294967295 - n

abbrev pub ace_turned : List ℕ → ℕ
ace_turned xs = turned (ace_number xs)

abbrev pub AreAceLists : List (List ℕ) → Type 0
AreAceLists [] = Unit {0}
AreAceLists (l ∷ ls) = IsAceList l × AreAceLists ls

pub ace_number-lt : (xs : List ℕ) → IsAceList xs → ace_number xs < 268435456
ace_number-lt xs a = let low : digits_from 7 (a.first ∷ a.second ∷ a.ranks) < 16 ^ 7 = digits_from-lt 7 (a.first ∷ a.second ∷ a.ranks) (a.some.0, a.some.1, (a.some.2, a.some.3, a.digits)) in omega (arith, number-is xs a)

lesser_ace : (b : Bool) (l m : List ℕ) → IsAceList l → IsAceList m → IsAceList (cond b m l)
lesser_ace true l m p q = q
lesser_ace false l m p q = p

lesser-turned : (l m : List ℕ) → IsAceList l → IsAceList m → ace_turned (cond (is_lt (slice_cmp nat_cmp m l)) m l) ≡ max (ace_turned l) (ace_turned m)
lesser-turned l m p q = ap (λ o. ace_turned (cond (is_lt o) m l)) (sym (ace-order m l q p)) ∙ elim (cases_order (ace_number m) (ace_number l)) [
  | inl e ↦ ap (λ o. ace_turned (cond (is_lt o) m l)) (sym (nat_cmp_is (ace_number m) (ace_number l) Equal e)) ∙ omega arith
  | inr o ↦ elim o [
    | inl s ↦ ap (λ o. ace_turned (cond (is_lt o) m l)) (sym (nat_cmp_is (ace_number m) (ace_number l) Less s)) ∙ omega arith
    | inr g ↦ ap (λ o. ace_turned (cond (is_lt o) m l)) (sym (nat_cmp_is (ace_number m) (ace_number l) Greater g)) ∙ omega arith
  ]
]

-- the least of some lists
pub record IsLeast (ls : List (List ℕ)) : Type 0 where
  pub list : List ℕ
  pub is : least_of ls ≡ Some list
  pub ace : IsAceList list
  pub turned : ace_turned list ≡ greatest (map ace_turned ls)

pub least_of-IsLeast : (l : List ℕ) (ls : List (List ℕ)) → AreAceLists (l ∷ ls) → IsLeast (l ∷ ls)
least_of-IsLeast l [] p = record { list = l; is = refl; ace = p.0; turned = omega arith }
least_of-IsLeast l (m ∷ ms) p =
    let rest : IsLeast (m ∷ ms) = least_of-IsLeast m ms p.1 in
    record {
      list = cond (is_lt (slice_cmp nat_cmp rest.list l)) rest.list l;
      is = ap (λ o. Some (lesser l o)) rest.is;
      ace = lesser_ace (is_lt (slice_cmp nat_cmp rest.list l)) l rest.list p.0 rest.ace;
      turned = lesser-turned l rest.list p.0 rest.ace ∙ ap (λ v. max (ace_turned l) v) rest.turned;
    }

-- a number is that of the least list where turned it is the greatest
pub from_turned : (ls : List (List ℕ)) (v : ℕ) → AreAceLists ls → 0 < length ls → v ≤ 4294967295 → turned v ≡ greatest (map ace_turned ls) → Some v ≡ option_map ace_number (least_of ls)
from_turned [] v p some h e = absurd (omega arith)
from_turned (l ∷ ls) v p some h e =
    let least = least_of-IsLeast l ls p in
    let same : v ≡ ace_number least.list = omega (arith, least.turned, ace_number-lt least.list least.ace) in
    ap Some same ∙ sym (ap (option_map ace_number) least.is)

some_is : (a b : ℕ) → Some a ≡ Some b → a ≡ b
some_is a b e = cc

pub to_turned : (ls : List (List ℕ)) (v : ℕ) → AreAceLists ls → Some v ≡ option_map ace_number (least_of ls) → (turned v ≡ greatest (map ace_turned ls)) × (v < 268435456)
to_turned [] v p e = absurd (differ e)
  where
    differ : Some v ≡ None → ⊥
    differ e = cc
to_turned (l ∷ ls) v p e =
    let least = least_of-IsLeast l ls p in
    let same : v ≡ ace_number least.list = some_is v (ace_number least.list) (e ∙ ap (option_map ace_number) least.is) in
    (ap turned same ∙ least.turned, omega (arith, ace_number-lt least.list least.ace))
