-- Sums over boards and choices in either order: what walks add up beside each board is what each choice adds over its runouts.
use Rattle.std.proofs.Common.{◌≡◌, ◌≢◌, ◌==◌, ℕ, zero, suc, ◌+◌, ◌*◌, ◌-◌, ◌<◌, List, [], ◌∷◌, ◌++◌, map, take, length, get_or, length-append, refl, sym, ap, ◌∙◌, arith, Bool, true, false, cond, not, ◌&&◌, ◌||◌, inl, inr}
use Rattle.std.specs.Prelude.{filter, slice_get, Some}
use Rattle.std.specs.List.{sum_by, list_all, list_any}
use Rattle.std.proofs.lemmas.List.Elements.{filter-append}
use Rattle.std.proofs.lemmas.Bool.{and_parts, or_cases}
use Rattle.std.proofs.lemmas.List.{take_more}
use Rattle.std.proofs.lemmas.List.Folds.{list_all-append}
use Rattle.std.proofs.lemmas.List.Sums.{sum_by-cons, sum_by-append}
use Rattle.card_sets.specs.Bits.{cards_where_same, has-cards_where}
use Rattle.card_sets.specs.Cards.{has_card, deck, minus, union, with_card, without_card, IsCardSet, IsRising}
use Rattle.card_sets.specs.Choose.{choose}
use Rattle.card_sets.specs.Disjoint.{apart}
use Rattle.card_sets.specs.SuitBits.{filter-where}
use Rattle.card_sets.proofs.CallerLemmas.{Apart-sym, Apart-apart, apart-Apart, first_taken, from_apart, has_all, in_minus, in_union, in_where, length-with_card, not_true, of_deck, union-front, union-nil, union_left, union_right}
use Rattle.runout_ranges.specs.Runouts.{runouts, left_by}
use Rattle.runout_ranges.specs.Ways.{binomial}
use Rattle.runout_ranges.specs.Slots.{unseen, slot_of, counts_of}
use Rattle.runout_ranges.specs.declared.shapes.Receiver.TheVariants.{Board}
use Rattle.showdown_tally.specs.Tallies.{runouts_after}
use Rattle.range_lines.specs.declared.spot.Weighted.{Weighted}
use Rattle.hand_ranges.specs.Boards.{board_adds, boards_add, is_off, open_cards}
use Rattle.range_lines.specs.Choices.{hands_in, is_disjoint, walked}
use Rattle.range_lines.specs.Sound.{IsHand, AreHands, AreRanges}
use Rattle.hand_ranges.proofs.ApartChoices.{sum_same, sum_none, sum_filter, sum_flat, sum_map}
use Rattle.range_lines.proofs.CallerLemmas.{of_twos, AreTwos, slots_twos}
use Rattle.range_lines.proofs.CallerLemmas.{and_true, hands_push}

-- ---- walks over the hands that pass

push_passes : (p : Weighted → Bool) (taken : List Weighted) (w : Weighted) → list_all p taken ≡ true → list_all p (taken ++ w ∷ []) ≡ p w
push_passes p taken w all = list_all-append p taken (w ∷ []) ∙ rw all (last (p w))
  where
    last : (b : Bool) → (b && true) ≡ b
    last true = refl
    last false = refl

push_fails : (p : Weighted → Bool) (taken : List Weighted) (w : Weighted) → list_all p taken ≡ false → list_all p (taken ++ w ∷ []) ≡ false
push_fails p taken w fails = list_all-append p taken (w ∷ []) ∙ rw fails refl

walked_fails : (p : Weighted → Bool) (ranges : List (List Weighted)) (taken : List Weighted) (number : List Weighted → ℕ) → list_all p taken ≡ false
    → walked ranges taken (λ choice. cond (list_all p choice) (number choice) 0) ≡ 0
walked_fails p [] taken number fails = rw fails refl
walked_fails p (range ∷ ranges) taken number fails =
    sum_same range _ (λ w. 0) (λ w. zero_if (is_disjoint (taken ++ w ∷ [])) _ (walked_fails p ranges (taken ++ w ∷ []) number (push_fails p taken w fails))) ∙ sum_none range
  where
    zero_if : (b : Bool) (n : ℕ) → n ≡ 0 → cond b n 0 ≡ 0
    zero_if true n h = h
    zero_if false n h = refl

pub walked_passing : (p : Weighted → Bool) (ranges : List (List Weighted)) (taken : List Weighted) (number : List Weighted → ℕ) → list_all p taken ≡ true
    → walked (map (filter p) ranges) taken number ≡ walked ranges taken (λ choice. cond (list_all p choice) (number choice) 0)
walked_passing p [] taken number all = rw all refl
walked_passing p (range ∷ ranges) taken number all =
    sum_filter p (λ w. cond (is_disjoint (taken ++ w ∷ [])) (walked (map (filter p) ranges) (taken ++ w ∷ []) number) 0) range
    ∙ sum_same range _ (λ w. cond (is_disjoint (taken ++ w ∷ [])) (walked ranges (taken ++ w ∷ []) (λ choice. cond (list_all p choice) (number choice) 0)) 0)
    (λ w. each (λ front passes. walked_passing p ranges front number passes) w)
  where
    none : (b : Bool) → ◌≡◌ {A = ℕ} 0 (cond b 0 0)
    none true = refl
    none false = refl

    each : ((front : List Weighted) → list_all p front ≡ true → walked (map (filter p) ranges) front number ≡ walked ranges front (λ choice. cond (list_all p choice) (number choice) 0))
        → (w : Weighted) → cond (p w) (cond (is_disjoint (taken ++ w ∷ [])) (walked (map (filter p) ranges) (taken ++ w ∷ []) number) 0) 0
        ≡ cond (is_disjoint (taken ++ w ∷ [])) (walked ranges (taken ++ w ∷ []) (λ choice. cond (list_all p choice) (number choice) 0)) 0
    each again w = elim (p w) as (λ b. p w ≡ b → cond b (cond (is_disjoint (taken ++ w ∷ [])) (walked (map (filter p) ranges) (taken ++ w ∷ []) number) 0) 0
        ≡ cond (is_disjoint (taken ++ w ∷ [])) (walked ranges (taken ++ w ∷ []) (λ choice. cond (list_all p choice) (number choice) 0)) 0) [
          | true ↦ λ e. ap (λ n. cond (is_disjoint (taken ++ w ∷ [])) n 0) (again (taken ++ w ∷ []) (push_passes p taken w all ∙ e))
          | false ↦ λ e. none (is_disjoint (taken ++ w ∷ [])) ∙ ap (λ n. cond (is_disjoint (taken ++ w ∷ [])) n 0) (sym (walked_fails p ranges (taken ++ w ∷ []) number (push_passes p taken w all ∙ e)))
        ] refl

-- ---- two sums in either order

pub sum_both : {X : Type 0} (f g : X → ℕ) (xs : List X) → sum_by (λ x. f x + g x) xs ≡ sum_by f xs + sum_by g xs
sum_both f g [] = refl
sum_both f g (x ∷ xs) = omega (arith, sum_by-cons (λ x. f x + g x) x xs, sum_by-cons f x xs, sum_by-cons g x xs, sum_both f g xs)

pub sum_swap : {X Y : Type 0} (f : X → Y → ℕ) (xs : List X) (ys : List Y) → sum_by (λ x. sum_by (f x) ys) xs ≡ sum_by (λ y. sum_by (λ x. f x y) xs) ys
sum_swap f [] ys = sym (sum_none ys)
sum_swap f (x ∷ xs) ys =
    sum_by-cons (λ x. sum_by (f x) ys) x xs ∙ ap (λ n. sum_by (f x) ys + n) (sum_swap f xs ys) ∙ sym (sum_both (f x) (λ y. sum_by (λ x. f x y) xs) ys)
    ∙ sum_same ys _ _ (λ y. sym (sum_by-cons (λ x. f x y) x xs))

sum_if : {X : Type 0} (b : Bool) (f : X → ℕ) (xs : List X) → sum_by (λ x. cond b (f x) 0) xs ≡ cond b (sum_by f xs) 0
sum_if true f xs = refl
sum_if false f xs = sum_none xs

-- a walk for each member of a list, or one walk over sums
pub walked_sum : {X : Type 0} (ranges : List (List Weighted)) (taken : List Weighted) (number : X → List Weighted → ℕ) (xs : List X)
    → sum_by (λ x. walked ranges taken (number x)) xs ≡ walked ranges taken (λ choice. sum_by (λ x. number x choice) xs)
walked_sum [] taken number xs = refl
walked_sum (range ∷ ranges) taken number xs =
    sum_swap (λ x w. cond (is_disjoint (taken ++ w ∷ [])) (walked ranges (taken ++ w ∷ []) (number x)) 0) xs range
    ∙ sum_same range _ (λ w. cond (is_disjoint (taken ++ w ∷ [])) (walked ranges (taken ++ w ∷ []) (λ choice. sum_by (λ x. number x choice) xs)) 0)
    (λ w. sum_if (is_disjoint (taken ++ w ∷ [])) (λ x. walked ranges (taken ++ w ∷ []) (number x)) xs
    ∙ ap (λ n. cond (is_disjoint (taken ++ w ∷ [])) n 0) (walked_sum ranges (taken ++ w ∷ []) number xs))

-- numbers that are the same for each choice of the ranges' hands
pub walked_alike : (board dead : List ℕ) (n : ℕ) (ranges : List (List Weighted)) (taken : List Weighted) (f g : List Weighted → ℕ)
    → AreRanges board dead ranges → AreHands board dead taken → is_disjoint taken ≡ true → length taken + length ranges ≡ n
    → ((choice : List Weighted) → AreHands board dead choice → is_disjoint choice ≡ true → length choice ≡ n → f choice ≡ g choice)
    → walked ranges taken f ≡ walked ranges taken g
walked_alike board dead n [] taken f g are hands d all same = same taken hands d (omega (arith, all))
walked_alike board dead n (range ∷ ranges) taken f g are hands d all same =
    go (λ w h e. walked_alike board dead n ranges (taken ++ w ∷ []) f g are.1 (hands_push board dead taken w hands h) e (omega (arith, all, length-append taken (w ∷ []))) same) range are.0.each
  where
    step : ((w : Weighted) → IsHand board dead w → is_disjoint (taken ++ w ∷ []) ≡ true → walked ranges (taken ++ w ∷ []) f ≡ walked ranges (taken ++ w ∷ []) g)
        → (w : Weighted) → IsHand board dead w → cond (is_disjoint (taken ++ w ∷ [])) (walked ranges (taken ++ w ∷ []) f) 0 ≡ cond (is_disjoint (taken ++ w ∷ [])) (walked ranges (taken ++ w ∷ []) g) 0
    step again w h = elim (is_disjoint (taken ++ w ∷ [])) as (λ b. is_disjoint (taken ++ w ∷ []) ≡ b → cond b (walked ranges (taken ++ w ∷ []) f) 0 ≡ cond b (walked ranges (taken ++ w ∷ []) g) 0) [
      | true ↦ λ e. again w h e
      | false ↦ λ e. refl
    ] refl

    go : ((w : Weighted) → IsHand board dead w → is_disjoint (taken ++ w ∷ []) ≡ true → walked ranges (taken ++ w ∷ []) f ≡ walked ranges (taken ++ w ∷ []) g)
        → (some : List Weighted) → AreHands board dead some
        → sum_by (λ w. cond (is_disjoint (taken ++ w ∷ [])) (walked ranges (taken ++ w ∷ []) f) 0) some ≡ sum_by (λ w. cond (is_disjoint (taken ++ w ∷ [])) (walked ranges (taken ++ w ∷ []) g) 0) some
    go again [] h = refl
    go again (w ∷ some) h =
        sum_by-cons (λ w. cond (is_disjoint (taken ++ w ∷ [])) (walked ranges (taken ++ w ∷ []) f) 0) w some
        ∙ ap (λ k. k + sum_by (λ w. cond (is_disjoint (taken ++ w ∷ [])) (walked ranges (taken ++ w ∷ []) f) 0) some) (step again w h.0)
        ∙ ap (λ k. cond (is_disjoint (taken ++ w ∷ [])) (walked ranges (taken ++ w ∷ []) g) 0 + k) (go again some h.1)
        ∙ sym (sum_by-cons (λ w. cond (is_disjoint (taken ++ w ∷ [])) (walked ranges (taken ++ w ∷ []) g) 0) w some)

-- a factor of each choice
pub walked_times : (ranges : List (List Weighted)) (taken : List Weighted) (times : ℕ) (number : List Weighted → ℕ) → walked ranges taken (λ choice. times * number choice) ≡ times * walked ranges taken number
walked_times [] taken times number = refl
walked_times (range ∷ ranges) taken times number = all (λ w. walked_times ranges (taken ++ w ∷ []) times number) range
  where
    one : (b : Bool) (n k : ℕ) → n ≡ times * k → cond b n 0 ≡ times * cond b k 0
    one true n k e = e
    one false n k e = sym (omega arith)

    all : ((w : Weighted) → walked ranges (taken ++ w ∷ []) (λ choice. times * number choice) ≡ times * walked ranges (taken ++ w ∷ []) number) → (some : List Weighted)
        → sum_by (λ w. cond (is_disjoint (taken ++ w ∷ [])) (walked ranges (taken ++ w ∷ []) (λ choice. times * number choice)) 0) some ≡ times * sum_by (λ w. cond (is_disjoint (taken ++ w ∷ [])) (walked ranges (taken ++ w ∷ []) number) 0) some
    all again [] = sym (omega arith)
    all again (w ∷ some) =
        let here = one (is_disjoint (taken ++ w ∷ [])) _ _ (again w) in
        let rest = all again some in
        let f : Weighted → ℕ = λ w. cond (is_disjoint (taken ++ w ∷ [])) (walked ranges (taken ++ w ∷ []) (λ choice. times * number choice)) 0 in
        let g : Weighted → ℕ = λ w. cond (is_disjoint (taken ++ w ∷ [])) (walked ranges (taken ++ w ∷ []) number) 0 in
        sum_by-cons f w some ∙ ap (λ n. n + sum_by f some) here ∙ ap (λ n. times * g w + n) rest ∙ (let split : times * g w + times * sum_by g some ≡ times * (g w + sum_by g some) = omega arith in split) ∙ ap (λ n. times * n) (sym (sum_by-cons g w some))

-- ---- the runouts of a choice, as boards

-- choices of the cards that pass are the choices of which each card passes
first_passes : (p : ℕ → Bool) (x : ℕ) (ys : List (List ℕ)) → p x ≡ true → filter (list_all p) (map (λ rest. x ∷ rest) ys) ≡ map (λ rest. x ∷ rest) (filter (list_all p) ys)
first_passes p x [] e = refl
first_passes p x (y ∷ ys) e = rw e (elim (list_all p y) as (λ b. cond b ((x ∷ y) ∷ filter (list_all p) (map (λ rest. x ∷ rest) ys)) (filter (list_all p) (map (λ rest. x ∷ rest) ys)) ≡ map (λ rest. x ∷ rest) (cond b (y ∷ filter (list_all p) ys) (filter (list_all p) ys))) [
  | true ↦ ap (λ l. (x ∷ y) ∷ l) (first_passes p x ys e)
  | false ↦ first_passes p x ys e
])

first_fails : (p : ℕ → Bool) (x : ℕ) (ys : List (List ℕ)) → p x ≡ false → filter (list_all p) (map (λ rest. x ∷ rest) ys) ≡ []
first_fails p x [] e = refl
first_fails p x (y ∷ ys) e = rw e (first_fails p x ys e)

choose_filter : (p : ℕ → Bool) (k : ℕ) (xs : List ℕ) → choose k (filter p xs) ≡ filter (list_all p) (choose k xs)
choose_filter p zero xs = refl
choose_filter p (suc k) [] = refl
choose_filter p (suc k) (x ∷ xs) =
    let parts = filter-append (list_all p) (map (λ rest. x ∷ rest) (choose k xs)) (choose (suc k) xs) in
    elim (p x) as (λ b. p x ≡ b → choose (suc k) (cond b (x ∷ filter p xs) (filter p xs)) ≡ filter (list_all p) (map (λ rest. x ∷ rest) (choose k xs) ++ choose (suc k) xs)) [
      | true ↦ λ e.
          ap (λ l. map (λ rest. x ∷ rest) l ++ choose (suc k) (filter p xs)) (choose_filter p k xs)
          ∙ ap (λ l. l ++ choose (suc k) (filter p xs)) (sym (first_passes p x (choose k xs) e))
          ∙ ap (λ l. filter (list_all p) (map (λ rest. x ∷ rest) (choose k xs)) ++ l) (choose_filter p (suc k) xs)
          ∙ sym parts
      | false ↦ λ e. choose_filter p (suc k) xs ∙ sym (parts ∙ ap (λ l. l ++ filter (list_all p) (choose (suc k) xs)) (first_fails p x (choose k xs) e))
    ] refl

-- the cards that no hand has, of those on neither board nor among the dead cards
abbrev pub is_free : List (List ℕ) → ℕ → Bool
is_free hands k = not (list_any (λ hand. has_card hand k) hands)

unseen_filter : (board dead : List ℕ) (hands : List (List ℕ)) → unseen (of_twos board dead hands) ≡ filter (is_free hands) (unseen (of_twos board dead []))
unseen_filter board dead hands = cards_where_same _ _ (λ k l. regroup (not (has_card board k)) (not (has_card dead k)) (not (list_any (λ hand. has_card hand k) hands))) ∙ sym (filter-where (is_free hands) _)
  where
    regroup : (a b c : Bool) → (a && b && c) ≡ ((a && b && not false) && c)
    regroup true true c = refl
    regroup true false c = refl
    regroup false b c = refl

-- the runout that a board makes, where it lacks so many cards
abbrev pub runout_of : ℕ → List ℕ → List (List ℕ)
runout_of zero cards = []
runout_of (suc n) cards = cards ∷ []

over_boards : (lacks : ℕ) (left : List ℕ) (f : List (List ℕ) → ℕ) → sum_by f (runouts left (counts_of (slot_of Board lacks ++ []))) ≡ sum_by (λ cards. f (runout_of lacks cards)) (choose lacks left)
over_boards zero left f = refl
over_boards (suc n) left f =
    sum_flat (λ first. map (λ rest. first ∷ rest) (runouts (left_by left first) [])) f (choose (suc n) left)
    ∙ sum_same (choose (suc n) left) _ (λ cards. f (cards ∷ [])) (λ cards. (let one : sum_by f ((cards ∷ []) ∷ []) ≡ f (cards ∷ []) = omega arith in one))

-- a number added up over the runouts of a choice is the same added up over all boards that no hand meets
pub over_free_boards : (board dead : List ℕ) (hands : List (List ℕ)) (f : List (List ℕ) → ℕ) → AreTwos hands
    → sum_by f (runouts_after (of_twos board dead hands))
    ≡ sum_by (λ cards. cond (list_all (is_free hands) cards) (f (runout_of (5 - length board) cards)) 0) (choose (5 - length board) (unseen (of_twos board dead [])))
over_free_boards board dead hands f twos =
    let s = of_twos board dead hands in
    let lacks = 5 - length board in
    ap (λ some. sum_by f (runouts (unseen s) (counts_of some))) (slots_twos board dead hands twos)
    ∙ over_boards lacks (unseen s) f
    ∙ ap (λ left. sum_by (λ cards. f (runout_of lacks cards)) (choose lacks left)) (unseen_filter board dead hands)
    ∙ ap (sum_by (λ cards. f (runout_of lacks cards))) (choose_filter (is_free hands) lacks (unseen (of_twos board dead [])))
    ∙ sum_filter (list_all (is_free hands)) (λ cards. f (runout_of lacks cards)) (choose lacks (unseen (of_twos board dead [])))

-- numbers that are the same for each choice of so many cards: of none there is the empty one alone
pub sum_chosen : (k : ℕ) (xs : List ℕ) (f g : List ℕ → ℕ) → ((cards : List ℕ) → (k ≡ 0 → cards ≡ []) → f cards ≡ g cards) → sum_by f (choose k xs) ≡ sum_by g (choose k xs)
sum_chosen zero xs f g same =
    let one : f [] ≡ g [] = same [] (λ e. refl) in
    omega (arith, one, sum_by-cons f [] [], sum_by-cons g [] [])
sum_chosen (suc k) xs f g same = sum_same (choose (suc k) xs) f g (λ cards. same cards (λ e. absurd (omega (arith, e))))

-- ---- hands that have no card of a board

pub bool_same : (a b : Bool) → (a ≡ true → b ≡ true) → (b ≡ true → a ≡ true) → a ≡ b
bool_same true b f g = sym (f refl)
bool_same false true f g = g refl
bool_same false false f g = refl

swap_all : {X Y : Type 0} (p : X → Y → Bool) (xs : List X) (ys : List Y) → list_all (λ x. list_all (p x) ys) xs ≡ list_all (λ y. list_all (λ x. p x y) xs) ys
swap_all p [] ys = sym (all_true ys)
  where
    all_true : {Y : Type 0} (ys : List Y) → list_all (λ y. true) ys ≡ true
    all_true [] = refl
    all_true (y ∷ ys) = all_true ys
swap_all p (x ∷ xs) ys = ap (λ b. list_all (p x) ys && b) (swap_all p xs ys) ∙ both (p x) (λ y. list_all (λ x. p x y) xs) ys
  where
    regroup : (a b c d : Bool) → ((a && b) && (c && d)) ≡ ((a && c) && (b && d))
    regroup true true c d = refl
    regroup true false true d = refl
    regroup true false false d = refl
    regroup false b c d = refl

    both : {Y : Type 0} (f g : Y → Bool) (ys : List Y) → (list_all f ys && list_all g ys) ≡ list_all (λ y. f y && g y) ys
    both f g [] = refl
    both f g (y ∷ ys) = regroup (f y) (list_all f ys) (g y) (list_all g ys) ∙ ap (λ b. (f y && g y) && b) (both f g ys)

all_same : {X : Type 0} (f g : X → Bool) (xs : List X) → ((x : X) → f x ≡ g x) → list_all f xs ≡ list_all g xs
all_same f g [] same = refl
all_same f g (x ∷ xs) same = rw (same x, all_same f g xs same) refl

none_of : (hands : List Weighted) (k : ℕ) → list_all (λ w. not (has_card w.hand k)) hands ≡ is_free (hands_in hands) k
none_of [] k = refl
none_of (w ∷ hands) k = ap (λ b. not (has_card w.hand k) && b) (none_of hands k) ∙ either (has_card w.hand k) (list_any (λ hand. has_card hand k) (hands_in hands))
  where
    either : (a b : Bool) → (not a && not b) ≡ not (a || b)
    either true b = refl
    either false b = refl

-- seen from either side
pub apart_either : (a b : List ℕ) → apart a b ≡ apart b a
apart_either a b = bool_same (apart a b) (apart b a) (turned a b) (turned b a)
  where
    turned : (a b : List ℕ) → apart a b ≡ true → apart b a ≡ true
    turned a b h = apart-Apart b a (Apart-sym a b (Apart-apart a b h))

-- a hand that has no card of the board has none of the full one where it has none of the cards that came
off_full : (hand board cards : List ℕ) → IsCardSet hand → apart hand board ≡ true → apart hand (union board cards) ≡ apart hand cards
off_full hand board cards set off = bool_same (apart hand (union board cards)) (apart hand cards)
    (λ h. has_all (λ c. not (has_card cards c)) hand (λ k x. out (has_card cards k) (λ y. from_apart hand (union board cards) k h x (union_right board cards k (of_deck hand k set x) y))))
    (λ h. has_all (λ c. not (has_card (union board cards) c)) hand (λ k x. out (has_card (union board cards) k) (λ y. elim (in_union board cards k y).1 [
      | inl z ↦ from_apart hand board k off x z
      | inr z ↦ from_apart hand cards k h x z
    ])))
  where
    out : (b : Bool) → (b ≡ true → ⊥) → not b ≡ true
    out true h = absurd (h refl)
    out false h = refl

-- no hand of a choice has a card of the full board where each card that came is free
pub off_board : (board dead cards : List ℕ) (choice : List Weighted) → AreHands board dead choice → list_all (is_off (union board cards)) choice ≡ list_all (is_free (hands_in choice)) cards
off_board board dead cards choice are =
    off_cards choice are
    ∙ all_same (λ w. apart w.hand cards) (λ w. list_all (λ k. not (has_card w.hand k)) cards) choice (λ w. apart_either w.hand cards)
    ∙ swap_all (λ w k. not (has_card w.hand k)) choice cards
    ∙ all_same (λ k. list_all (λ w. not (has_card w.hand k)) choice) (is_free (hands_in choice)) cards (λ k. none_of choice k)
  where
    off_cards : (choice : List Weighted) → AreHands board dead choice → list_all (is_off (union board cards)) choice ≡ list_all (λ w. apart w.hand cards) choice
    off_cards [] are = refl
    off_cards (w ∷ choice) are = rw (off_full w.hand board cards are.0.set are.0.off_board, off_cards choice are.1) refl

-- a hand that has no card of some hands has none of all their cards
pub apart_union : (hand a b : List ℕ) → IsCardSet hand → apart hand (union a b) ≡ (apart hand a && apart hand b)
apart_union hand a b set = bool_same (apart hand (union a b)) (apart hand a && apart hand b)
    (λ h. and_true (apart hand a) (apart hand b)
    (has_all (λ c. not (has_card a c)) hand (λ k x. out (has_card a k) (λ y. from_apart hand (union a b) k h x (union_left a b k (of_deck hand k set x) y))))
    (has_all (λ c. not (has_card b c)) hand (λ k x. out (has_card b k) (λ y. from_apart hand (union a b) k h x (union_right a b k (of_deck hand k set x) y)))))
    (λ h. let both = and_parts (apart hand a) (apart hand b) h in
    has_all (λ c. not (has_card (union a b) c)) hand (λ k x. out (has_card (union a b) k) (λ y. elim (in_union a b k y).1 [
      | inl z ↦ from_apart hand a k both.0 x z
      | inr z ↦ from_apart hand b k both.1 x z
    ])))
  where
    out : (b : Bool) → (b ≡ true → ⊥) → not b ≡ true
    out true h = absurd (h refl)
    out false h = refl

pub all_more : (p : Weighted → Bool) (xs : List Weighted) (i : ℕ) (d : Weighted) → i < length xs → list_all p (take (i + 1) xs) ≡ (list_all p (take i xs) && p (get_or xs i d))
all_more p xs i d l = ap (list_all p) (take_more xs i d l) ∙ list_all-append p (take i xs) (get_or xs i d ∷ []) ∙ ap (λ b. list_all p (take i xs) && b) (last (p (get_or xs i d)))
  where
    last : (b : Bool) → (b && true) ≡ b
    last true = refl
    last false = refl

pub cards_more : (hands : List Weighted) (cards : List ℕ) (i : ℕ) (w : Weighted) → i < length hands → w ≡ get_or hands i w
    → ((hand : List ℕ) → IsCardSet hand → apart hand cards ≡ list_all (λ v. apart v.hand hand) (take i hands))
    → (hand : List ℕ) → IsCardSet hand → apart hand (union cards w.hand) ≡ list_all (λ v. apart v.hand hand) (take (i + 1) hands)
cards_more hands cards i w l is before hand set =
    apart_union hand cards w.hand set
    ∙ ap (λ b. b && apart hand w.hand) (before hand set)
    ∙ ap (λ b. list_all (λ v. apart v.hand hand) (take i hands) && b) (apart_either hand w.hand ∙ ap (λ v. apart v.hand hand) is)
    ∙ sym (all_more (λ v. apart v.hand hand) hands i w l)

-- ---- boards, card by card

pub boards_none : (ranges : List (List Weighted)) (board rest : List ℕ) (missing : ℕ) (by_set : ℕ → ℕ) (each : ℕ) → IsCardSet board → missing ≡ 0 → boards_add ranges board missing rest by_set each ≡ board_adds ranges board by_set each
boards_none ranges board rest missing by_set each set none =
    let f : List ℕ → ℕ = λ cards. board_adds ranges (union board cards) by_set each in
    ap (λ k. sum_by f (choose k rest)) none ∙ sum_by-cons f [] [] ∙ (let z : f [] + 0 ≡ f [] = omega arith in z) ∙ ap (λ full. board_adds ranges full by_set each) (union-nil board set)

pub boards_empty : (ranges : List (List Weighted)) (board rest : List ℕ) (missing : ℕ) (by_set : ℕ → ℕ) (each : ℕ) → missing ≢ 0 → length rest ≡ 0 → boards_add ranges board missing rest by_set each ≡ 0
boards_empty ranges board [] zero by_set each some none = absurd (some refl)
boards_empty ranges board [] (suc k) by_set each some none = refl
boards_empty ranges board (c ∷ rest) missing by_set each some none = absurd (omega arith)

pub boards_split : (ranges : List (List Weighted)) (board rest others : List ℕ) (card missing : ℕ) (by_set : ℕ → ℕ) (each : ℕ) → missing ≢ 0 → rest ≡ card ∷ others
    → boards_add ranges board missing rest by_set each ≡ boards_add ranges (with_card board card) (missing - 1) others by_set each + boards_add ranges board missing others by_set each
boards_split ranges board rest others card zero by_set each some is = absurd (some refl)
boards_split ranges board rest others card (suc k) by_set each some is =
    let f : List ℕ → ℕ = λ cards. board_adds ranges (union board cards) by_set each in
    let less : suc k - 1 ≡ k = omega arith in
    ap (λ l. sum_by f (choose (suc k) l)) is
    ∙ sum_by-append f (map (λ more. card ∷ more) (choose k others)) (choose (suc k) others)
    ∙ ap (λ n. n + sum_by f (choose (suc k) others)) (sum_map (λ more. card ∷ more) f (choose k others)
    ∙ sum_same (choose k others) _ (λ cards. board_adds ranges (union (with_card board card) cards) by_set each) (λ cards. ap (λ full. board_adds ranges full by_set each) (union-front board cards card))
    ∙ ap (λ n. boards_add ranges (with_card board card) n others by_set each) (sym less))

pub ways_split : (n missing most : ℕ) → missing ≢ 0 → binomial (n + 1) missing * most ≡ binomial n (missing - 1) * most + binomial n missing * most
ways_split n zero most some = absurd (some refl)
ways_split n (suc k) most some =
    let up : n + 1 ≡ suc n = omega arith in
    let less : suc k - 1 ≡ k = omega arith in
    let here : binomial (n + 1) (suc k) ≡ binomial n k + binomial n (suc k) = ap (λ m. binomial m (suc k)) up in
    let there : binomial n (suc k - 1) ≡ binomial n k = ap (binomial n) less in
    let a : binomial (n + 1) (suc k) * most ≡ (binomial n k + binomial n (suc k)) * most = ap (λ m. m * most) here in
    let b : binomial n (suc k - 1) * most ≡ binomial n k * most = ap (λ m. m * most) there in
    let split : (binomial n k + binomial n (suc k)) * most ≡ binomial n k * most + binomial n (suc k) * most = omega arith in
    omega (arith, a, b, split)

pub ways_none : (n missing most : ℕ) → missing ≡ 0 → binomial n missing * most ≡ most
ways_none n missing most none = ap (λ k. binomial n k * most) none ∙ (let one : 1 * most ≡ most = omega arith in one)

-- the first card of those that may come
pub record FirstCard (board rest others : List ℕ) (card : ℕ) : Type 0 where
  pub first : rest ≡ card ∷ others
  pub longer : length (with_card board card) ≡ length board + 1
  pub with_apart : apart others (with_card board card) ≡ true
  pub apart : apart others board ≡ true

pub first_card : (board rest others : List ℕ) (card : ℕ) → IsCardSet board → IsCardSet rest → IsRising rest → apart rest board ≡ true → slice_get rest 0 ≡ Some card → others ≡ without_card rest card → FirstCard board rest others card
first_card board rest others card board_set set rising off is left =
    let step = first_taken [] rest card rising set is in
    let split : rest ≡ card ∷ others = step.first ∙ ap (λ l. card ∷ l) (sym left) in
    let here : has_card rest card ≡ true = ap (λ l. has_card l card) split ∙ first_has card others in
    let out : has_card board card ≡ false = not_has (has_card board card) (λ y. from_apart rest board card off here y) in
    let below : card < 52 = of_deck rest card set here in
    let inside : (k : ℕ) → has_card others k ≡ true → (k < 52) × (((k == card) ≡ true → ⊥) × (has_card rest k ≡ true)) = λ k h.
    (let w = in_where (λ j. not (j == card) && has_card rest j) k (sym (ap (λ l. has_card l k) left) ∙ h) in let s = and_parts (not (k == card)) (has_card rest k) w.1 in (w.0, (not_true (k == card) s.0, s.1))) in
    record {
      first = split;
      longer = length-with_card board card board_set out below;
      with_apart = apart-Apart others (with_card board card) (λ k h x. let i = inside k h in let w = in_where (λ j. (j == card) || has_card board j) k x in elim (or_cases (k == card) (has_card board k) w.1) [
        | inl e ↦ i.1.0 e
        | inr y ↦ from_apart rest board k off i.1.1 y
      ]);
      apart = apart-Apart others board (λ k h x. from_apart rest board k off (inside k h).1.1 x);
    }
  where
    first_has : (card : ℕ) (others : List ℕ) → has_card (card ∷ others) card ≡ true
    first_has card others = let same : (card == card) ≡ true = grind arith in rw same refl

    not_has : (b : Bool) → (b ≡ true → ⊥) → b ≡ false
    not_has true h = absurd (h refl)
    not_has false h = refl

-- the cards that may come, whatever the hands
pub open_apart : (board dead : List ℕ) → apart (open_cards board dead) board ≡ true
open_apart board dead = apart-Apart (open_cards board dead) board (λ k h x. (in_minus deck board k (in_minus (minus deck board) dead k h).1).2 x)

pub open_unseen : (board dead : List ℕ) → open_cards board dead ≡ unseen (of_twos board dead [])
open_unseen board dead = cards_where_same _ _ (λ k l. rw (has-cards_where (λ j. has_card deck j && not (has_card board j)) k l, has-cards_where (λ j. true) k l) (last (not (has_card board k)) (not (has_card dead k))))
  where
    last : (a b : Bool) → ((true && a) && b) ≡ (a && b && not false)
    last true true = refl
    last true false = refl
    last false b = refl
