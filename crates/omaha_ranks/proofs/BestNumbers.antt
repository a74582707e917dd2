-- The best number of some fives.
use Rattle.std.proofs.Common.{◌≡◌, ℕ, zero, suc, ◌<◌, ◌≤◌, List, [], ◌∷◌, ◌++◌, refl, sym, ap, ◌∙◌, arith, Bool, true, false, cond, length, map, max, get_or, Some, None, inl, inr}
use Rattle.std.specs.Prelude.{filter}
use Rattle.std.specs.Option.{option_map}
use Rattle.std.proofs.lemmas.List.{map-append}
use Rattle.std.proofs.lemmas.Bool.{cases_eq}
use Rattle.card_sets.specs.Choose.{choose}
use Rattle.rank_high.specs.High.{high, value_of}
use Rattle.rank_high.specs.Parts.{plain_high, best_plain}
use Rattle.rank_low.specs.Low.{low_a5, qualifies, least_of, ace_number, best_eight}
use Rattle.card_sets.proofs.CallerLemmas.{greatest, greatest-append, choose-all}
use Rattle.rank_high.proofs.CallerLemmas.{AreHighLists, value_of-greatest_of, high-IsHighList, number, plain_number, plain_high-IsHighList, best_plain-number}
use Rattle.rank_low.proofs.CallerLemmas.{low_a5-IsAceList, set-FewOfEach, eight_turned, greatest-filter, some_of, AreAceLists-filter, five_turned, turned, ace_turned, AreAceLists, ace_number-lt, from_turned}
use Rattle.hand_choice.specs.AllowedFives.{AreFives}
use Rattle.omaha_ranks.specs.Omaha.{high_number, plain_high_number, eight_number}

pub map-same : (fives : List (List ℕ)) → map (λ five. five) fives ≡ fives
map-same [] = refl
map-same (five ∷ fives) = ap (λ ls. five ∷ ls) (map-same fives)

-- each of the fives is one
pub five-at : (fives : List (List ℕ)) (place : ℕ) (d : List ℕ) → AreFives fives → place < length fives → length (get_or fives place d) ≡ 5
five-at [] place d are l = absurd (omega arith)
five-at (five ∷ fives) zero d are l = are.1
five-at (five ∷ fives) (suc place) d are l = five-at fives place d are.2 (omega arith)

pub highs : (fives : List (List ℕ)) → AreFives fives → AreHighLists (map high fives)
highs [] are = tt
highs (five ∷ fives) are = (high-IsHighList five (omega (arith, are.1)), highs fives are.2)

numbers : (fives : List (List ℕ)) → map value_of (map high fives) ≡ map number fives
numbers [] = refl
numbers (five ∷ fives) = ap (λ ns. number five ∷ ns) (numbers fives)

-- the number of the best high is the greatest number
pub high_number-greatest : (fives : List (List ℕ)) → AreFives fives → high_number fives ≡ greatest (map number fives)
high_number-greatest fives are = value_of-greatest_of (map high fives) (highs fives are) ∙ ap greatest (numbers fives)

plain_highs : (fives : List (List ℕ)) → AreFives fives → AreHighLists (map plain_high fives)
plain_highs [] are = tt
plain_highs (five ∷ fives) are = (plain_high-IsHighList five (omega (arith, are.1)), plain_highs fives are.2)

plain_numbers : (fives : List (List ℕ)) → map value_of (map plain_high fives) ≡ map plain_number fives
plain_numbers [] = refl
plain_numbers (five ∷ fives) = ap (λ ns. plain_number five ∷ ns) (plain_numbers fives)

-- the same by ranks alone
pub plain_high_number-greatest : (fives : List (List ℕ)) → AreFives fives → plain_high_number fives ≡ greatest (map plain_number fives)
plain_high_number-greatest fives are = value_of-greatest_of (map plain_high fives) (plain_highs fives are) ∙ ap greatest (plain_numbers fives)

pub greatest-push : (f : List ℕ → ℕ) (fives : List (List ℕ)) (five : List ℕ) → greatest (map f (fives ++ five ∷ [])) ≡ max (greatest (map f fives)) (f five)
greatest-push f fives five = omega (arith, ap greatest (map-append f fives (five ∷ [])), greatest-append (map f fives) (map f (five ∷ [])))

pub aces : (fives : List (List ℕ)) → AreFives fives → AreAceLists (map low_a5 fives)
aces [] are = tt
aces (five ∷ fives) are = (low_a5-IsAceList five are.1 (set-FewOfEach five are.0), aces fives are.2)

-- the number of the best low, where the greatest number turned round is known
pub some-eight : (fives : List (List ℕ)) (v : ℕ) → AreFives fives → v < 4294967295 → turned v ≡ greatest (map eight_turned fives) → Some v ≡ eight_number fives
some-eight fives v are small e =
    let number : greatest (map ace_turned (map low_a5 (filter qualifies fives))) ≡ turned v = greatest-filter fives ∙ sym e in
    from_turned (map low_a5 (filter qualifies fives)) v (AreAceLists-filter fives (aces fives are)) (some_of (map low_a5 (filter qualifies fives)) (omega arith)) (omega arith) (sym number)

pub no-eight : (fives : List (List ℕ)) → AreFives fives → 0 ≡ greatest (map eight_turned fives) → None ≡ eight_number fives
no-eight fives are e = one (map low_a5 (filter qualifies fives)) (AreAceLists-filter fives (aces fives are)) (greatest-filter fives ∙ sym e)
  where
    one : (ls : List (List ℕ)) → AreAceLists ls → greatest (map ace_turned ls) ≡ 0 → None ≡ option_map ace_number (least_of ls)
    one [] p h = refl
    one (l ∷ ls) p h = absurd (let small = ace_number-lt l p.0 in omega arith)

turned_small : (n : ℕ) → turned n ≤ 4294967295
turned_small n = omega arith

pub eight_turned-le : (fives : List (List ℕ)) → greatest (map eight_turned fives) ≤ 4294967295
eight_turned-le [] = omega arith
eight_turned-le (five ∷ fives) = omega (arith, one (qualifies five), eight_turned-le fives)
  where
    one : (b : Bool) → cond b (five_turned five) 0 ≤ 4294967295
    one true = turned_small (ace_number (low_a5 five))
    one false = omega arith

-- the greatest number turned round tells the number of the best low
pub eight-by : (fives others : List (List ℕ)) → AreFives fives → AreFives others → greatest (map eight_turned fives) ≡ greatest (map eight_turned others) → eight_number fives ≡ eight_number others
eight-by fives others are are' e = elim (cases_eq (greatest (map eight_turned fives)) 0) [
  | inl none ↦ sym (no-eight fives are (sym none)) ∙ no-eight others are' (omega arith)
  | inr some ↦
      let v : ℕ = turned (greatest (map eight_turned fives)) in
      let back : turned v ≡ greatest (map eight_turned fives) = omega (arith, eight_turned-le fives) in
      let small : v < 4294967295 = omega (arith, eight_turned-le fives) in
      sym (some-eight fives v are small back) ∙ some-eight others v are' small (back ∙ e)
]
