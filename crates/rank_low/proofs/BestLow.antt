-- The best of some fives, chosen card by card.
use Rattle.std.proofs.Common.{◌≡◌, ℕ, suc, zero, ◌-◌, ◌+◌, ◌<◌, List, ◌++◌, ◌∷◌, [], refl, ap, ◌∙◌, sym, arith, length, length-append, inr, map, max, min, append_assoc, append-nil, Option, Some, None}
use Rattle.std.specs.Option.{option_map}
use Rattle.std.proofs.lemmas.List.{map-append}
use Rattle.card_sets.specs.Cards.{IsRising}
use Rattle.card_sets.specs.Rising.{rising-IsCardSet}
use Rattle.card_sets.specs.Choose.{choose}
use Rattle.card_sets.proofs.CallerLemmas.{greatest, greatest-append, choose-short, IsPart, AreParts, AreParts-choose}
use Rattle.rank_low.specs.Low.{low_a5, ace_number, least_of}
use Rattle.rank_low.proofs.AceShapes.{low_a5-IsAceList}
use Rattle.rank_low.proofs.TurnedNumbers.{ace_turned, AreAceLists, from_turned, to_turned}
use Rattle.rank_low.proofs.LowestFive.{part-FewOfEach}

part_behind : (taken part rest : List ℕ) → IsPart part rest → IsPart (taken ++ part) (taken ++ rest)
part_behind [] part rest p = p
part_behind (x ∷ taken) part rest p = inr (taken ++ part, refl, part_behind taken part rest p)

lists : (taken rest : List ℕ) (k : ℕ) (ls : List (List ℕ)) → IsRising (taken ++ rest) → length taken + k ≡ 5 → AreParts k rest ls → AreAceLists (map (λ more. low_a5 (taken ++ more)) ls)
lists taken rest k [] r h p = tt
lists taken rest k (l ∷ ls) r h p = (
  low_a5-IsAceList (taken ++ l) (length-append taken l ∙ (let e : length l ≡ k = p.0 in let w : length taken + length l ≡ 5 = omega arith in w)) (part-FewOfEach (taken ++ l) (taken ++ rest) (rising-IsCardSet (taken ++ rest) r) (part_behind taken l rest p.1)),
  lists taken rest k ls r h p.2,
)

-- the fives that all the taken cards make with so many of the rest
abbrev pub with_taken : List ℕ → ℕ → List ℕ → List (List ℕ)
with_taken taken k rest = map (λ more. low_a5 (taken ++ more)) (choose k rest)

-- the number of the best of them
abbrev pub best_of : List ℕ → ℕ → List ℕ → Option ℕ
best_of taken k rest = option_map ace_number (least_of (with_taken taken k rest))

pub with_taken-AreAceLists : (taken : List ℕ) (k : ℕ) (rest : List ℕ) → IsRising (taken ++ rest) → length taken + k ≡ 5 → AreAceLists (with_taken taken k rest)
with_taken-AreAceLists taken k rest r h = lists taken rest k (choose k rest) r h (AreParts-choose k rest)

-- with no card to choose, the taken cards are the five
pub best-none : (taken rest : List ℕ) → Some (ace_number (low_a5 taken)) ≡ best_of taken 0 rest
best-none taken rest = ap (λ five. Some (ace_number (low_a5 five))) (sym (append-nil taken))

map-front : (taken : List ℕ) (x : ℕ) (ls : List (List ℕ)) → map (λ more. low_a5 (taken ++ more)) (map (λ rest. x ∷ rest) ls) ≡ map (λ more. low_a5 ((taken ++ x ∷ []) ++ more)) ls
map-front taken x [] = refl
map-front taken x (l ∷ ls) = ap (λ five. low_a5 five ∷ map (λ more. low_a5 (taken ++ more)) (map (λ rest. x ∷ rest) ls)) (sym (append_assoc taken (x ∷ []) l)) ∙ ap (λ ms. low_a5 ((taken ++ x ∷ []) ++ l) ∷ ms) (map-front taken x ls)

-- either the next card is taken or it is left out
lists-step : (taken : List ℕ) (k x : ℕ) (rest : List ℕ) → with_taken taken (suc k) (x ∷ rest) ≡ with_taken (taken ++ x ∷ []) k rest ++ with_taken taken (suc k) rest
lists-step taken k x rest = map-append (λ more. low_a5 (taken ++ more)) (map (λ rest. x ∷ rest) (choose k rest)) (choose (suc k) rest) ∙ ap (λ ls. ls ++ with_taken taken (suc k) rest) (map-front taken x (choose k rest))

AreAceLists-append : (ls ms : List (List ℕ)) → AreAceLists ls → AreAceLists ms → AreAceLists (ls ++ ms)
AreAceLists-append [] ms p q = q
AreAceLists-append (l ∷ ls) ms p q = (p.0, AreAceLists-append ls ms p.1 q)

some-length : (ls : List (List ℕ)) (v : ℕ) → Some v ≡ option_map ace_number (least_of ls) → 0 < length ls
some-length [] v e = absurd (differ e)
  where
    differ : Some v ≡ None → ⊥
    differ e = cc
some-length (l ∷ ls) v e = omega arith

both-least : (ls ms : List (List ℕ)) (a b v : ℕ) → AreAceLists ls → AreAceLists ms → Some a ≡ option_map ace_number (least_of ls) → Some b ≡ option_map ace_number (least_of ms) → v ≡ min a b → Some v ≡ option_map ace_number (least_of (ls ++ ms))
both-least ls ms a b v p q e f g =
    let x = to_turned ls a p e in
    let y = to_turned ms b q f in
    let all : greatest (map ace_turned (ls ++ ms)) ≡ max (greatest (map ace_turned ls)) (greatest (map ace_turned ms)) = ap greatest (map-append ace_turned ls ms) ∙ greatest-append (map ace_turned ls) (map ace_turned ms) in
    from_turned (ls ++ ms) v (AreAceLists-append ls ms p q) (omega (arith, length-append ls ms, some-length ls a e)) (omega (arith, x.1, y.1)) (omega (arith, x.0, y.0, x.1, y.1))

-- the better of the best with the first card and the best without it
pub best-next : (taken rest others : List ℕ) (card missing a b v : ℕ) → IsRising ((taken ++ card ∷ []) ++ others) → IsRising (taken ++ others) → length taken + missing ≡ 5 → (missing ≡ 0 → ⊥) → rest ≡ card ∷ others
    → Some a ≡ best_of (taken ++ card ∷ []) (missing - 1) others → Some b ≡ best_of taken missing others → v ≡ min a b → Some v ≡ best_of taken missing rest
best-next taken rest others card zero a b v r s h some first e f g = absurd (some refl)
best-next taken rest others card (suc k) a b v r s h some first e f g =
    let less : suc k - 1 ≡ k = omega arith in
    let e' : Some a ≡ best_of (taken ++ card ∷ []) k others = e ∙ ap (λ n. best_of (taken ++ card ∷ []) n others) less in
    let longer : length (taken ++ card ∷ []) + k ≡ 5 = omega (arith, length-append taken (card ∷ [])) in
    both-least (with_taken (taken ++ card ∷ []) k others) (with_taken taken (suc k) others) a b v (with_taken-AreAceLists (taken ++ card ∷ []) k others r longer) (with_taken-AreAceLists taken (suc k) others s h) e' f g
    ∙ ap (λ ls. option_map ace_number (least_of ls)) (sym (lists-step taken k card others)) ∙ ap (λ cards. best_of taken (suc k) cards) (sym first)

-- where too few are left without it, the first card is taken
pub best-all : (taken rest others : List ℕ) (card missing a : ℕ) → (missing ≡ 0 → ⊥) → rest ≡ card ∷ others → length others < missing
    → Some a ≡ best_of (taken ++ card ∷ []) (missing - 1) others → Some a ≡ best_of taken missing rest
best-all taken rest others card zero a some first short e = absurd (some refl)
best-all taken rest others card (suc k) a some first short e =
    let less : suc k - 1 ≡ k = omega arith in
    let none : with_taken taken (suc k) others ≡ [] = ap (λ ls. map (λ more. low_a5 (taken ++ more)) ls) (choose-short (suc k) others short) in
    let whole : with_taken taken (suc k) (card ∷ others) ≡ with_taken (taken ++ card ∷ []) k others = lists-step taken k card others ∙ ap (λ ls. with_taken (taken ++ card ∷ []) k others ++ ls) none ∙ append-nil (with_taken (taken ++ card ∷ []) k others) in
    e ∙ ap (λ n. best_of (taken ++ card ∷ []) n others) less ∙ ap (λ ls. option_map ace_number (least_of ls)) (sym whole) ∙ ap (λ cards. best_of taken (suc k) cards) (sym first)
