-- Pairs in the order of the listing of choices.
use Rattle.std.proofs.Common.{◌≡◌, ℕ, zero, suc, ◌+◌, ◌-◌, ◌<◌, ◌≤◌, List, [], ◌∷◌, ◌++◌, length, length-append, map, take, drop, refl, sym, ap, ◌∙◌, arith, append_assoc, get_or, set}
use Rattle.std.specs.List.{slice_range}
use Rattle.std.proofs.lemmas.List.{length-drop, length-map, map-append, take_all, take_more_set}
use Rattle.card_sets.specs.Choose.{choose}
use Rattle.runout_ranges.specs.Ways.{binomial}
use Rattle.runout_ranges.proofs.CallerLemmas.{length_choose}
use Rattle.board_runouts.specs.Pairs.{cards_of_pair}
use Rattle.board_ranks.specs.declared.pair.Pair.{Pair}
use Rattle.runout_walk.proofs.CallerLemmas.{grows, range-map, range-none, two-first}

-- what is left of a list from a place on
pub first_left : {X : Type 0} (xs : List X) (i : ℕ) (x : X) → i < length xs → x ≡ get_or xs i x → drop i xs ≡ x ∷ drop (i + 1) xs
first_left [] i x h e = absurd (omega arith)
first_left (y ∷ ys) zero x h e = ap (λ z. z ∷ ys) (sym e)
first_left (y ∷ ys) (suc i) x h e = let b : suc i + 1 ≡ suc (i + 1) = omega arith in rw b (first_left ys i x (omega arith) e)

pub none_left : {X : Type 0} (xs : List X) (i : ℕ) → length xs ≤ i → drop i xs ≡ []
none_left [] zero h = refl
none_left [] (suc i) h = refl
none_left (x ∷ xs) zero h = absurd (omega arith)
none_left (x ∷ xs) (suc i) h = none_left xs i (omega arith)

pub all_left : {X : Type 0} (xs : List X) (i : ℕ) → take (length xs - i) (drop i xs) ≡ drop i xs
all_left xs i = take_all (length xs - i) (drop i xs) (let d = length-drop i xs in omega (arith, d))

-- one pair more
pub put_one : (pairs : List Pair) (used low high : ℕ) (rest left : List ℕ) (pair : Pair) (all : List (List ℕ)) → used < length pairs → cards_of_pair pair ≡ low ∷ high ∷ [] → rest ≡ high ∷ left
    → map cards_of_pair (take used pairs) ++ map (λ h. low ∷ h ∷ []) rest ≡ all → map cards_of_pair (take (used + 1) (set pairs used pair)) ++ map (λ h. low ∷ h ∷ []) left ≡ all
put_one pairs used low high rest left pair all inside is first e =
    ap (λ l. map cards_of_pair l ++ map (λ h. low ∷ h ∷ []) left) (take_more_set pairs used pair inside)
    ∙ ap (λ l. l ++ map (λ h. low ∷ h ∷ []) left) (map-append cards_of_pair (take used pairs) (pair ∷ []))
    ∙ ap (λ p. (map cards_of_pair (take used pairs) ++ p ∷ []) ++ map (λ h. low ∷ h ∷ []) left) is
    ∙ append_assoc (map cards_of_pair (take used pairs)) ((low ∷ high ∷ []) ∷ []) (map (λ h. low ∷ h ∷ []) left)
    ∙ ap (λ r. map cards_of_pair (take used pairs) ++ map (λ h. low ∷ h ∷ []) r) (sym first) ∙ e

-- all pairs of one card more
pub put_all : (before after all : List (List ℕ)) (low : ℕ) (rest others : List ℕ) → rest ≡ low ∷ others → after ≡ before ++ map (λ high. low ∷ high ∷ []) others → before ++ choose 2 rest ≡ all → after ++ choose 2 others ≡ all
put_all before after all low rest others first put e =
    ap (λ l. l ++ choose 2 others) put ∙ append_assoc before (map (λ high. low ∷ high ∷ []) others) (choose 2 others) ∙ ap (λ l. before ++ l) (sym (ap (choose 2) first ∙ two-first low others)) ∙ e

-- no more pairs than of the whole deck
pub few_pairs : (cards : List ℕ) → length cards ≤ 52 → length (choose 2 cards) ≤ 1326
few_pairs cards h =
    let all : length cards + (52 - length cards) ≡ 52 = omega arith in
    let most : binomial (length cards) 2 ≤ binomial (length cards + (52 - length cards)) 2 = grows (length cards) (52 - length cards) 2 in
    let size : binomial 52 2 ≡ 1326 = refl in
    omega (arith, length_choose 2 cards, ap (λ n. binomial n 2) all, most, size)

-- the choices from a card on are the last of all
pub choose-end : (k : ℕ) (front rest : List ℕ) → (more : List (List ℕ)) × (choose (suc k) (front ++ rest) ≡ more ++ choose (suc k) rest)
choose-end k [] rest = ([], refl)
choose-end k (x ∷ front) rest =
    let later = choose-end k front rest in
    (map (λ l. x ∷ l) (choose k (front ++ rest)) ++ later.0, ap (λ l. map (λ l. x ∷ l) (choose k (front ++ rest)) ++ l) later.1 ∙ sym (append_assoc (map (λ l. x ∷ l) (choose k (front ++ rest))) later.0 (choose (suc k) rest)))

drop-front : {X : Type 0} (front rest : List X) → drop (length front) (front ++ rest) ≡ rest
drop-front [] rest = refl
drop-front (x ∷ front) rest = drop-front front rest

range-behind : {X : Type 0} (xs : List X) (start lo hi : ℕ) → slice_range xs (start + lo) (start + hi) ≡ slice_range (drop start xs) lo hi
range-behind xs zero lo hi =
    let a : 0 + lo ≡ lo = omega arith in
    let b : 0 + hi ≡ hi = omega arith in
    rw (a, b) refl
range-behind [] (suc start) lo hi = range-none (suc start + lo) (suc start + hi) ∙ sym (range-none lo hi)
range-behind (x ∷ xs) (suc start) lo hi =
    let a : suc start + lo ≡ suc (start + lo) = omega arith in
    let b : suc start + hi ≡ suc (start + hi) = omega arith in
    let d : suc (start + hi) - suc (start + lo) ≡ (start + hi) - (start + lo) = omega arith in
    rw (a, b, d) (range-behind xs start lo hi)

-- a stretch of the pairs of the last cards
pub stretch_is : (listed : List Pair) (cards front rest : List ℕ) (size lo hi : ℕ) → cards ≡ front ++ rest → map cards_of_pair listed ≡ choose 2 cards → size ≡ length (choose 2 rest)
    → map cards_of_pair (slice_range listed ((length listed - size) + lo) ((length listed - size) + hi)) ≡ slice_range (choose 2 rest) lo hi
stretch_is listed cards front rest size lo hi split all s =
    let ends = choose-end 1 front rest in
    let is : map cards_of_pair listed ≡ ends.0 ++ choose 2 rest = all ∙ ap (choose 2) split ∙ ends.1 in
    let long : length listed ≡ length ends.0 + length (choose 2 rest) = sym (length-map listed cards_of_pair) ∙ ap length is ∙ length-append ends.0 (choose 2 rest) in
    let start : length listed - size ≡ length ends.0 = omega arith in
    sym (range-map cards_of_pair listed ((length listed - size) + lo) ((length listed - size) + hi))
    ∙ range-behind (map cards_of_pair listed) (length listed - size) lo hi
    ∙ ap (λ l. slice_range l lo hi) (ap (λ n. drop n (map cards_of_pair listed)) start ∙ ap (λ l. drop (length ends.0) l) is ∙ drop-front ends.0 (choose 2 rest))

-- the pairs of the last cards are no more than those of all
pub stretch_fits : (listed : List Pair) (cards front rest : List ℕ) → cards ≡ front ++ rest → map cards_of_pair listed ≡ choose 2 cards → length (choose 2 rest) ≤ length listed
stretch_fits listed cards front rest split all =
    let ends = choose-end 1 front rest in
    let is : map cards_of_pair listed ≡ ends.0 ++ choose 2 rest = all ∙ ap (choose 2) split ∙ ends.1 in
    let long : length listed ≡ length ends.0 + length (choose 2 rest) = sym (length-map listed cards_of_pair) ∙ ap length is ∙ length-append ends.0 (choose 2 rest) in
    omega arith
