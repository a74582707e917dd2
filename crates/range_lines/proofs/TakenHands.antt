-- Hands that are taken, with one more.
use Rattle.std.proofs.Common.{◌≡◌, ℕ, zero, suc, ◌+◌, ◌*◌, ◌-◌, ◌<◌, ◌≤◌, ◌^◌, List, [], ◌∷◌, ◌++◌, length, take, drop, replicate, get_or, set, refl, sym, ap, ◌∙◌, subst, arith, Bool, true, false, ◌&&◌}
use Rattle.std.specs.List.{list_all}
use Rattle.std.proofs.Math.Nat.{pow-le-pow_right, mul_assoc}
use Rattle.std.proofs.lemmas.Nat.{mul-le, pow-add}
use Rattle.std.proofs.lemmas.List.{take-append-drop, take_more_set}
use Rattle.card_sets.specs.Disjoint.{apart, all_apart, all_empty}
use Rattle.card_sets.specs.Games.{all_fit}
use Rattle.card_sets.specs.declared.games.Game.TheVariants.{Holdem}
use Rattle.std.specs.Prelude.{nat_le}
use Rattle.card_sets.proofs.CallerLemmas.{Apart-sym, Apart-apart, apart-Apart}
use Rattle.std.proofs.lemmas.Bool.{and_parts}
use Rattle.range_lines.specs.declared.spot.Weighted.{Weighted}
use Rattle.range_lines.specs.Choices.{hands_in, is_disjoint, weight_of}
use Rattle.range_lines.specs.Sound.{IsHand, AreHands}
use Rattle.range_lines.proofs.CardsLeft.{AreSets, AreTwos}

pub and_true : (a b : Bool) → a ≡ true → b ≡ true → (a && b) ≡ true
and_true true b x y = y
and_true false b x y = x

regroup : (a b c d : Bool) → ((a && (b && true)) && (c && d)) ≡ ((a && c) && (b && d))
regroup true true c d = refl
regroup true false true d = refl
regroup true false false d = refl
regroup false b c d = refl

-- one hand more is apart from the others where it has no card of them
pub disjoint_push : (taken : List Weighted) (w : Weighted) → is_disjoint (taken ++ w ∷ []) ≡ (is_disjoint taken && list_all (λ v. apart v.hand w.hand) taken)
disjoint_push [] w = refl
disjoint_push (v ∷ taken) w =
    ap (λ b. b && is_disjoint (taken ++ w ∷ [])) (all_push taken v.hand w)
    ∙ ap (λ b. (list_all (apart v.hand) (hands_in taken) && (apart v.hand w.hand && true)) && b) (disjoint_push taken w)
    ∙ regroup (list_all (apart v.hand) (hands_in taken)) (apart v.hand w.hand) (is_disjoint taken) (list_all (λ v. apart v.hand w.hand) taken)
  where
    step : (a b c : Bool) → (a && (b && c)) ≡ ((a && b) && c)
    step true b c = refl
    step false b c = refl

    all_push : (taken : List Weighted) (s : List ℕ) (w : Weighted) → list_all (apart s) (hands_in (taken ++ w ∷ [])) ≡ (list_all (apart s) (hands_in taken) && (apart s w.hand && true))
    all_push [] s w = refl
    all_push (v ∷ taken) s w = ap (λ b. apart s v.hand && b) (all_push taken s w) ∙ step (apart s v.hand) (list_all (apart s) (hands_in taken)) (apart s w.hand && true)

pub weight_push : (taken : List Weighted) (w : Weighted) → weight_of (taken ++ w ∷ []) ≡ weight_of taken * w.weight
weight_push [] w = omega arith
weight_push (v ∷ taken) w = ap (λ n. v.weight * n) (weight_push taken w) ∙ sym (mul_assoc v.weight (weight_of taken) w.weight)

pub hands_push : (board dead : List ℕ) (taken : List Weighted) (w : Weighted) → AreHands board dead taken → IsHand board dead w → AreHands board dead (taken ++ w ∷ [])
hands_push board dead [] w h x = (x, tt)
hands_push board dead (v ∷ taken) w h x = (h.0, hands_push board dead taken w h.1 x)

pub hand_at : (board dead : List ℕ) (hands : List Weighted) (i : ℕ) (d : Weighted) → AreHands board dead hands → i < length hands → IsHand board dead (get_or hands i d)
hand_at board dead [] i d h l = absurd (omega arith)
hand_at board dead (w ∷ hands) zero d h l = h.0
hand_at board dead (w ∷ hands) (suc i) d h l = hand_at board dead hands i d h.1 (omega arith)

-- hands are sets of two cards, apart from the board and the dead cards
pub hands_sets : (board dead : List ℕ) (hands : List Weighted) → AreHands board dead hands → AreSets (hands_in hands)
hands_sets board dead [] h = tt
hands_sets board dead (w ∷ hands) h = (h.0.set, hands_sets board dead hands h.1)

pub hands_twos : (board dead : List ℕ) (hands : List Weighted) → AreHands board dead hands → AreTwos (hands_in hands)
hands_twos board dead [] h = tt
hands_twos board dead (w ∷ hands) h = (h.0.two, hands_twos board dead hands h.1)

apart_turned : (a b : List ℕ) → apart a b ≡ true → apart b a ≡ true
apart_turned a b h = apart-Apart b a (Apart-sym a b (Apart-apart a b h))

board_apart : (board dead : List ℕ) (hands : List Weighted) → AreHands board dead hands → list_all (apart board) (hands_in hands) ≡ true
board_apart board dead [] h = refl
board_apart board dead (w ∷ hands) h = and_true _ _ (apart_turned w.hand board h.0.off_board) (board_apart board dead hands h.1)

dead_apart : (board dead : List ℕ) (hands : List Weighted) → AreHands board dead hands → list_all (apart dead) (hands_in hands) ≡ true
dead_apart board dead [] h = refl
dead_apart board dead (w ∷ hands) h = and_true _ _ (apart_turned w.hand dead h.0.off_dead) (dead_apart board dead hands h.1)

pub places_apart : (board dead : List ℕ) (hands : List Weighted) → apart board dead ≡ true → AreHands board dead hands → is_disjoint hands ≡ true → all_apart (board ∷ dead ∷ hands_in hands) ≡ true
places_apart board dead hands off h d =
    and_true _ _ (and_true _ _ off (board_apart board dead hands h)) (and_true _ _ (dead_apart board dead hands h) d)

-- ---- empty sets after the hands

pub none_apart : (s : List ℕ) → apart s [] ≡ true
none_apart [] = refl
none_apart (c ∷ s) = none_apart s

all_none : (s : List ℕ) (n : ℕ) → list_all (apart s) (replicate n []) ≡ true
all_none s zero = refl
all_none s (suc n) = and_true _ _ (none_apart s) (all_none s n)

nones_apart : (n : ℕ) → all_apart (replicate n []) ≡ true
nones_apart zero = refl
nones_apart (suc n) = and_true _ _ (all_none [] n) (nones_apart n)

pub nones_empty : (n : ℕ) → all_empty (replicate n []) ≡ true
nones_empty zero = refl
nones_empty (suc n) = nones_empty n

all_padded : (s : List ℕ) (sets : List (List ℕ)) (n : ℕ) → list_all (apart s) sets ≡ true → list_all (apart s) (sets ++ replicate n []) ≡ true
all_padded s [] n h = all_none s n
all_padded s (t ∷ sets) n h = let hs = and_parts (apart s t) (list_all (apart s) sets) h in and_true _ _ hs.0 (all_padded s sets n hs.1)

pub padded_apart : (sets : List (List ℕ)) (n : ℕ) → all_apart sets ≡ true → all_apart (sets ++ replicate n []) ≡ true
padded_apart [] n h = nones_apart n
padded_apart (s ∷ sets) n h = let hs = and_parts (list_all (apart s) sets) (all_apart sets) h in and_true _ _ (all_padded s sets n hs.0) (padded_apart sets n hs.1)

small_padded : (hands : List (List ℕ)) (n : ℕ) → AreTwos hands → list_all (λ hand. nat_le (length hand) 2) (hands ++ replicate n []) ≡ true
small_padded [] zero h = refl
small_padded [] (suc n) h = small_padded [] n h
small_padded (hand ∷ hands) n h =
    let two : length hand ≡ 2 = h.0 in
    let here : nat_le (length hand) 2 ≡ true = grind arith in
    and_true _ _ here (small_padded hands n h.1)

-- what the type of known cards keeps, of the hands of a choice with empty sets after them
pub known_apart : (board dead : List ℕ) (taken : List Weighted) (count : ℕ) (hands : List (List ℕ)) → apart board dead ≡ true → AreHands board dead taken → is_disjoint taken ≡ true
    → take count hands ≡ hands_in taken → drop count hands ≡ replicate (10 - count) [] → all_apart (board ∷ dead ∷ hands) ≡ true
known_apart board dead taken count hands off h d front back =
    subst (λ l. all_apart (board ∷ dead ∷ l) ≡ true) (ap (λ l. l ++ replicate (10 - count) []) (sym front) ∙ ap (λ l. take count hands ++ l) (sym back) ∙ take-append-drop count hands)
    (padded_apart (board ∷ dead ∷ hands_in taken) (10 - count) (places_apart board dead taken off h d))

pub known_fit : (board dead : List ℕ) (taken : List Weighted) (count : ℕ) (hands : List (List ℕ)) → length board ≤ 5 → AreHands board dead taken
    → take count hands ≡ hands_in taken → drop count hands ≡ replicate (10 - count) [] → all_fit Holdem board hands ≡ true
known_fit board dead taken count hands few h front back =
    let size : nat_le (length board) 5 ≡ true = grind arith in
    and_true _ _ size (subst (λ l. list_all (λ hand. nat_le (length hand) 2) l ≡ true) (ap (λ l. l ++ replicate (10 - count) []) (sym front) ∙ ap (λ l. take count hands ++ l) (sym back) ∙ take-append-drop count hands)
    (small_padded (hands_in taken) (10 - count) (hands_twos board dead taken h)))

-- ---- one hand more, written

pub taken_disjoint : (hands : List Weighted) (count : ℕ) (w : Weighted) → count < length hands → is_disjoint (take count hands) ≡ true → list_all (λ v. apart v.hand w.hand) (take count hands) ≡ true
    → is_disjoint (take (count + 1) (set hands count w)) ≡ true
taken_disjoint hands count w l d off = ap is_disjoint (take_more_set hands count w l) ∙ disjoint_push (take count hands) w ∙ and_true _ _ d off

pub taken_weight : (hands : List Weighted) (count weight : ℕ) (w : Weighted) → count < length hands → weight ≡ weight_of (take count hands) → weight * w.weight ≡ weight_of (take (count + 1) (set hands count w))
taken_weight hands count weight w l e = ap (λ n. n * w.weight) e ∙ sym (weight_push (take count hands) w) ∙ ap weight_of (sym (take_more_set hands count w l))

pub taken_light : (count weight more : ℕ) → weight ≤ 256 ^ count → more < 256 → weight * more ≤ 256 ^ (count + 1)
taken_light count weight more h l =
    let product : weight * more ≤ 256 ^ count * 256 = mul-le weight more (256 ^ count) 256 h (omega arith) in
    let power : 256 ^ (count + 1) ≡ 256 ^ count * 256 = pow-add 256 count 1 ∙ (let one : 256 ^ count * 256 ^ 1 ≡ 256 ^ count * 256 = omega arith in one) in
    omega (arith, product, power)

pub light_all : (count weight : ℕ) → count ≤ 4 → weight ≤ 256 ^ count → weight ≤ 2 ^ 32
light_all count weight few h =
    let power : 256 ^ count ≤ 256 ^ 4 = pow-le-pow_right (let some : 0 < 256 = omega arith in some) few in
    omega (arith, h, power)

pub light_three : (count weight : ℕ) → count < 4 → weight ≤ 256 ^ count → weight ≤ 2 ^ 24
light_three count weight few h =
    let power : 256 ^ count ≤ 256 ^ 3 = pow-le-pow_right (let some : 0 < 256 = omega arith in some) (let k : count ≤ 3 = omega arith in k) in
    omega (arith, h, power)
