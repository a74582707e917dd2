-- Who wins a pot in a game without a board: the hands with the greatest number, by the best of all but one and by that one.
use Rattle.std.proofs.Common.{◌≡◌, ℕ, zero, suc, ◌+◌, ◌<◌, ◌≤◌, ◌==◌, ◌&&◌, ◌^◌, not, Bool, true, false, cond, List, [], ◌∷◌, ◌++◌, length, map, max, refl, sym, ap, ◌∙◌, arith, inl, inr, Option, Some, None, append-nil}
use Rattle.std.specs.Prelude.{filter, nat_lt, is_some, slice_index}
use Rattle.std.specs.Option.{option_map}
use Rattle.std.proofs.lemmas.Bool.{cases_eq, cases_order}
use mathlib.Core.Bool.{true≢false}
use Rattle.std.proofs.lemmas.List.{length-map}
use Rattle.std.proofs.lemmas.List.Elements.{filter-append}
use Rattle.std.proofs.lemmas.List.Sums.{sum_by-cons}
use Rattle.card_sets.specs.Cards.{union, IsCardSet}
use Rattle.card_sets.specs.Choose.{choose}
use Rattle.card_sets.specs.Games.{own_size, board_size, only_side, has_side}
use Rattle.card_sets.specs.PlayerSets.{AreBelow, set_of_players, hands_below, has_player, without_player}
use Rattle.card_sets.specs.PlayerSetLaws.{has_player-without}
use Rattle.card_sets.specs.State.{State}
use Rattle.card_sets.specs.declared.games.Game.{Game}
use Rattle.card_sets.specs.declared.games.Game.TheVariants.{Holdem, Omaha, Omaha8, Stud, Stud8, Razz, Draw5, Lowball27, Triple27}
use Rattle.card_sets.specs.declared.games.Side.{Side}
use Rattle.card_sets.specs.declared.games.Side.TheVariants.{High, Low}
use Rattle.rank_low.specs.Low.{low_a5, low_27, least_of}
use Rattle.runout_ranges.proofs.CallerLemmas.{length_choose, binomial_some}
use Rattle.showdown_tally.proofs.CallerLemmas.{best-KeepOrder, no_side}
use Rattle.showdown_tally.specs.Laws.{IsFull}
use Rattle.showdown_tally.specs.Numbers.{side_number}
use Rattle.showdown_tally.specs.Showdown.{has_two_sides, Showdown, best, is_beaten_by, winners, own_after, board_after, value_after, eligible_in}
use Rattle.showdown_tally.specs.SideCounts.{count_place, low_mark}
use Rattle.showdown_tally.specs.Sides.{side_outcome}
use Rattle.runout_walk.specs.Bests.{best_value, best_set}
use Rattle.draw_runouts.specs.LastHand.{others_of, value_with, pick, winner_by}
use Rattle.draw_runouts.specs.Worth.{or_zero, full_worth, worth_after}
use Rattle.runout_walk.proofs.CallerLemmas.{AreOrdered, ordered_outcome, union-none}

-- the sum of the bits of the hands that pass
abbrev bits_where : (ℕ → Bool) → List ℕ → ℕ
bits_where p hands = set_of_players (filter p hands)

bits-cons : (p : ℕ → Bool) (x : ℕ) (xs : List ℕ) → bits_where p (x ∷ xs) ≡ cond (p x) (2 ^ x) 0 + bits_where p xs
bits-cons p x xs = one (p x)
  where
    one : (b : Bool) → set_of_players (cond b (x ∷ filter p xs) (filter p xs)) ≡ cond b (2 ^ x) 0 + set_of_players (filter p xs)
    one true = sum_by-cons (λ h. 2 ^ h) x (filter p xs)
    one false = omega arith

-- the hands by whether they are one hand
abbrev pub ones_of : ℕ → List ℕ → List ℕ
ones_of l hands = filter (λ h. h == l) hands

bits_split : (p : ℕ → Bool) (l : ℕ) (hands : List ℕ) → bits_where p hands ≡ bits_where p (others_of l hands) + bits_where p (ones_of l hands)
bits_split p l [] = refl
bits_split p l (x ∷ xs) = go (bits_split p l xs) (x == l)
  where
    go : bits_where p xs ≡ bits_where p (others_of l xs) + bits_where p (ones_of l xs) → (c : Bool) → bits_where p (x ∷ xs) ≡ bits_where p (cond (not c) (x ∷ others_of l xs) (others_of l xs)) + bits_where p (cond c (x ∷ ones_of l xs) (ones_of l xs))
    go ih true = omega (arith, ih, bits-cons p x xs, bits-cons p x (ones_of l xs))
    go ih false = omega (arith, ih, bits-cons p x xs, bits-cons p x (others_of l xs))

pub best_split : (v : ℕ → ℕ) (l : ℕ) (hands : List ℕ) → best_value v hands ≡ max (best_value v (others_of l hands)) (best_value v (ones_of l hands))
best_split v l [] = refl
best_split v l (x ∷ xs) = go (best_split v l xs) (x == l)
  where
    go : best_value v xs ≡ max (best_value v (others_of l xs)) (best_value v (ones_of l xs)) → (c : Bool) → max (v x) (best_value v xs) ≡ max (best_value v (cond (not c) (x ∷ others_of l xs) (others_of l xs))) (best_value v (cond c (x ∷ ones_of l xs) (ones_of l xs)))
    go ih true = omega (arith, ih)
    go ih false = omega (arith, ih)

-- a hand stands among those of a set once, or not at all
filter_one : (q : ℕ → Bool) (b : Bool) (n : ℕ) → filter q (cond b (n ∷ []) []) ≡ cond (b && q n) (n ∷ []) []
filter_one q true n = refl
filter_one q false n = refl

and_true : (b : Bool) → (b && true) ≡ b
and_true true = refl
and_true false = refl

and_false : (b : Bool) → (b && false) ≡ false
and_false true = refl
and_false false = refl

pub ones_are : (mask l n : ℕ) → ones_of l (hands_below mask n) ≡ cond (nat_lt l n && has_player mask l) (l ∷ []) []
ones_are mask l zero = let f : nat_lt l 0 ≡ false = grind arith in rw f refl
ones_are mask l (suc n) =
    filter-append (λ h. h == l) (hands_below mask n) (cond (has_player mask n) (n ∷ []) [])
    ∙ ap (λ xs. xs ++ filter (λ h. h == l) (cond (has_player mask n) (n ∷ []) [])) (ones_are mask l n)
    ∙ ap (λ xs. cond (nat_lt l n && has_player mask l) (l ∷ []) [] ++ xs) (filter_one (λ h. h == l) (has_player mask n) n)
    ∙ elim (cases_eq n l) [
      | inl e ↦
          let t : (n == l) ≡ true = grind arith in
          let f : nat_lt l n ≡ false = grind arith in
          let u : nat_lt l (suc n) ≡ true = grind arith in
          rw (t, f, u, and_true (has_player mask n)) (ap (λ k. cond (has_player mask k) (k ∷ []) []) e)
      | inr ne ↦
          let f : (n == l) ≡ false = grind arith in
          let same : nat_lt l (suc n) ≡ nat_lt l n = grind arith in
          rw (f, same, and_false (has_player mask n)) (append-nil (cond (nat_lt l n && has_player mask l) (l ∷ []) []))
    ]

-- the hands of a set without one
and_swap : (a b : Bool) → (a && b) ≡ (b && a)
and_swap true true = refl
and_swap true false = refl
and_swap false true = refl
and_swap false false = refl

pub hands_without : (mask l n : ℕ) → n ≤ 16 → hands_below (without_player mask l) n ≡ others_of l (hands_below mask n)
hands_without mask l zero few = refl
hands_without mask l (suc n) few =
    ap (λ b. hands_below (without_player mask l) n ++ cond b (n ∷ []) []) (has_player-without mask l n (omega arith) ∙ and_swap (not (n == l)) (has_player mask n))
    ∙ ap (λ xs. xs ++ cond (has_player mask n && not (n == l)) (n ∷ []) []) (hands_without mask l n (omega arith))
    ∙ sym (filter-append (λ h. not (h == l)) (hands_below mask n) (cond (has_player mask n) (n ∷ []) []) ∙ ap (λ xs. others_of l (hands_below mask n) ++ xs) (filter_one (λ h. not (h == l)) (has_player mask n) n))

-- numbers that agree but at one hand have the same best of the others
filter_others : (p q : ℕ → Bool) (l : ℕ) (hands : List ℕ) → ((h : ℕ) → (h ≡ l → ⊥) → p h ≡ q h) → filter p (others_of l hands) ≡ filter q (others_of l hands)
filter_others p q l [] e = refl
filter_others p q l (x ∷ xs) e = elim (cases_eq x l) [
  | inl same ↦ (let t : (x == l) ≡ true = grind arith in rw t (filter_others p q l xs e))
  | inr ne ↦ (let f : (x == l) ≡ false = grind arith in rw f (ap (λ b. cond b (x ∷ filter p (others_of l xs)) (filter p (others_of l xs))) (e x ne) ∙ ap (λ ys. cond (q x) (x ∷ ys) ys) (filter_others p q l xs e)))
]

pub best_others : (v w : ℕ → ℕ) (l : ℕ) (hands : List ℕ) → ((h : ℕ) → (h ≡ l → ⊥) → v h ≡ w h) → best_value v (others_of l hands) ≡ best_value w (others_of l hands)
best_others v w l [] e = refl
best_others v w l (x ∷ xs) e = elim (cases_eq x l) [
  | inl same ↦ (let t : (x == l) ≡ true = grind arith in rw t (best_others v w l xs e))
  | inr ne ↦ (let f : (x == l) ≡ false = grind arith in rw f (ap (λ n. max n (best_value v (others_of l xs))) (e x ne) ∙ ap (λ n. max (w x) n) (best_others v w l xs e)))
]

set_others : (v w : ℕ → ℕ) (l : ℕ) (hands : List ℕ) → ((h : ℕ) → (h ≡ l → ⊥) → v h ≡ w h) → best_set v (others_of l hands) ≡ best_set w (others_of l hands)
set_others v w l hands e =
    ap set_of_players (filter_others (λ h. v h == best_value v (others_of l hands)) (λ h. w h == best_value w (others_of l hands)) l hands
    (λ h ne. ap (λ n. n == best_value v (others_of l hands)) (e h ne) ∙ ap (λ n. w h == n) (best_others v w l hands e)))

-- no hand has a number above the best
none_above : (v : ℕ → ℕ) (t : ℕ) (hands : List ℕ) → best_value v hands < t → filter (λ h. v h == t) hands ≡ []
none_above v t [] l = refl
none_above v t (h ∷ hands) l =
    let f : (v h == t) ≡ false = (let less : v h < t = omega arith in grind arith) in
    rw f (none_above v t hands (omega arith))

-- the best of all, where one hand isn't among them
absent : (v : ℕ → ℕ) (l t s : ℕ) (hands : List ℕ) → ones_of l hands ≡ [] → t ≡ best_value v (others_of l hands) → s ≡ best_set v (others_of l hands) → best_set v hands ≡ s
absent v l t s hands none top set =
    let e : best_value v hands ≡ best_value v (others_of l hands) = best_split v l hands ∙ ap (λ xs. max (best_value v (others_of l hands)) (best_value v xs)) none ∙ omega arith in
    bits_split (λ h. v h == best_value v hands) l hands
    ∙ ap (λ xs. bits_where (λ h. v h == best_value v hands) (others_of l hands) + bits_where (λ h. v h == best_value v hands) xs) none
    ∙ (let z : bits_where (λ h. v h == best_value v hands) (others_of l hands) + 0 ≡ bits_where (λ h. v h == best_value v hands) (others_of l hands) = omega arith in z)
    ∙ ap (λ n. bits_where (λ h. v h == n) (others_of l hands)) e
    ∙ sym set

-- and where it is
bits_one : (p : ℕ → Bool) (l : ℕ) → bits_where p (l ∷ []) ≡ cond (p l) (2 ^ l) 0
bits_one p l = bits-cons p l [] ∙ omega arith

present : (v : ℕ → ℕ) (l t s : ℕ) (hands : List ℕ) → ones_of l hands ≡ l ∷ [] → t ≡ best_value v (others_of l hands) → s ≡ best_set v (others_of l hands) → best_set v hands ≡ winner_by t s (s + 2 ^ l) (2 ^ l) (v l)
present v l t s hands one top set = parts ∙ (elim (cases_order (v l) t) [
  | inl same ↦
      let m : max t (v l) ≡ t = omega arith in
      let q : (v l == t) ≡ true = grind arith in
      let f : nat_lt (v l) t ≡ false = grind arith in
      rw (m, q, f) (ap (λ n. n + 2 ^ l) others)
  | inr other ↦ elim other [
    | inl below ↦
        let m : max t (v l) ≡ t = omega arith in
        let q : (v l == t) ≡ false = grind arith in
        let f : nat_lt (v l) t ≡ true = grind arith in
        rw (m, q, f) ((let z : bits_where (λ h. v h == t) (others_of l hands) + 0 ≡ bits_where (λ h. v h == t) (others_of l hands) = omega arith in z) ∙ others)
    | inr above ↦
        let m : max t (v l) ≡ v l = omega arith in
        let q : (v l == v l) ≡ true = grind arith in
        let k : (v l == t) ≡ false = grind arith in
        let f : nat_lt (v l) t ≡ false = grind arith in
        let nobody : filter (λ h. v h == v l) (others_of l hands) ≡ [] = none_above v (v l) (others_of l hands) (omega arith) in
        rw (m, q, k, f) (ap (λ xs. set_of_players xs + 2 ^ l) nobody ∙ omega arith)
  ]
])
  where
    others : bits_where (λ h. v h == t) (others_of l hands) ≡ s
    others = ap (λ n. bits_where (λ h. v h == n) (others_of l hands)) top ∙ sym set

    parts : best_set v hands ≡ bits_where (λ h. v h == max t (v l)) (others_of l hands) + cond (v l == max t (v l)) (2 ^ l) 0
    parts =
        let e : best_value v hands ≡ max t (v l) = best_split v l hands ∙ ap (λ xs. max (best_value v (others_of l hands)) (best_value v xs)) one ∙ omega arith in
        ap (λ n. bits_where (λ h. v h == n) hands) e
        ∙ bits_split (λ h. v h == max t (v l)) l hands
        ∙ ap (λ xs. bits_where (λ h. v h == max t (v l)) (others_of l hands) + bits_where (λ h. v h == max t (v l)) xs) one
        ∙ ap (λ n. bits_where (λ h. v h == max t (v l)) (others_of l hands) + n) (bits_one (λ h. v h == max t (v l)) l)

-- one set in any case
pub pick_same : (s : ℕ) (a b : Bool) → pick s s s a b ≡ s
pick_same s true b = refl
pick_same s false true = refl
pick_same s false false = refl

-- who wins a pot, by the number of the last hand
pub winner_is : (values : List ℕ) (mask l n t s equal above value : ℕ) → l < n → t ≡ best_value (slice_index values) (others_of l (hands_below mask n)) → s ≡ best_set (slice_index values) (others_of l (hands_below mask n))
    → equal ≡ s + cond (has_player mask l) (2 ^ l) 0 → above ≡ cond (has_player mask l) (2 ^ l) s
    → winner_by t s equal above value ≡ best_set (value_with values l value) (hands_below mask n)
winner_is values mask l n t s equal above value inside top set is_equal is_above = go (has_player mask l) refl
  where
    agree : (h : ℕ) → (h ≡ l → ⊥) → slice_index values h ≡ value_with values l value h
    agree h ne = let f : (h == l) ≡ false = grind arith in rw f refl

    here : value_with values l value l ≡ value
    here = let t : (l == l) ≡ true = grind arith in rw t refl

    best_top : t ≡ best_value (value_with values l value) (others_of l (hands_below mask n))
    best_top = top ∙ best_others (slice_index values) (value_with values l value) l (hands_below mask n) agree

    best_others_set : s ≡ best_set (value_with values l value) (others_of l (hands_below mask n))
    best_others_set = set ∙ set_others (slice_index values) (value_with values l value) l (hands_below mask n) agree

    below : nat_lt l n ≡ true
    below = grind arith

    go : (b : Bool) → has_player mask l ≡ b → winner_by t s equal above value ≡ best_set (value_with values l value) (hands_below mask n)
    go true e =
        let once : ones_of l (hands_below mask n) ≡ l ∷ [] = ones_are mask l n ∙ rw (below, e) refl in
        let a : equal ≡ s + 2 ^ l = is_equal ∙ ap (λ b. s + cond b (2 ^ l) 0) e in
        let c : above ≡ 2 ^ l = is_above ∙ ap (λ b. cond b (2 ^ l) s) e in
        ap (λ k. winner_by t s k above value) a ∙ ap (λ k. winner_by t s (s + 2 ^ l) k value) c ∙ ap (λ k. winner_by t s (s + 2 ^ l) (2 ^ l) k) (sym here)
        ∙ sym (present (value_with values l value) l t s (hands_below mask n) once best_top best_others_set)
    go false e =
        let none : ones_of l (hands_below mask n) ≡ [] = ones_are mask l n ∙ rw (below, e) refl in
        let a : equal ≡ s = is_equal ∙ ap (λ b. s + cond b (2 ^ l) 0) e ∙ omega arith in
        let c : above ≡ s = is_above ∙ ap (λ b. cond b (2 ^ l) s) e in
        ap (λ k. winner_by t s k above value) a ∙ ap (λ k. winner_by t s s k value) c ∙ pick_same s (nat_lt value t) (value == t)
        ∙ sym (absent (value_with values l value) l t s (hands_below mask n) none best_top best_others_set)

-- a full hand has a number
some_least : (number : List ℕ → ℕ) (ls : List (List ℕ)) → 0 < length ls → option_map number (least_of ls) ≡ Some (or_zero (option_map number (least_of ls)))
some_least number [] h = absurd (omega arith)
some_least number (l ∷ ls) h = refl

some_five : (low : List ℕ → List ℕ) (full : List ℕ) → 5 ≤ length full → 0 < length (map low (choose 5 full))
some_five low full h = omega (arith, length-map (choose 5 full) low, length_choose 5 full, binomial_some (length full) 5 h)

number_is : (game : Game) (full : List ℕ) → board_size game ≡ 0 → length full ≡ own_size game → IsCardSet full
    → option_map (side_number (only_side game) game) (best (only_side game) game full []) ≡ Some (full_worth (only_side game) game full)
number_is Holdem full e n is = absurd (omega arith)
number_is Omaha full e n is = absurd (omega arith)
number_is Omaha8 full e n is = absurd (omega arith)
number_is Stud full e n is = refl
number_is Stud8 full e n is = refl
number_is Razz full e n is = some_least _ (map low_a5 (choose 5 (union full []))) (some_five low_a5 (union full []) (omega (arith, ap length (union-none full is))))
number_is Draw5 full e n is = refl
number_is Lowball27 full e n is = some_least _ (map low_27 (choose 5 (union full []))) (some_five low_27 (union full []) (omega (arith, ap length (union-none full is))))
number_is Triple27 full e n is = some_least _ (map low_27 (choose 5 (union full []))) (some_five low_27 (union full []) (omega (arith, ap length (union-none full is))))

pub no_cards : (cards : List ℕ) → length cards ≡ 0 → cards ≡ []
no_cards [] e = refl
no_cards (c ∷ cards) e = absurd (omega arith)

-- a value by its number
pub record IsNumbered (number : List ℕ → ℕ) (value : Option (List ℕ)) (k : ℕ) : Type 0 where
  pub cards : List ℕ
  pub is : value ≡ Some cards
  pub number_is : number cards ≡ k

numbered : (number : List ℕ → ℕ) (value : Option (List ℕ)) (k : ℕ) → option_map number value ≡ Some k → IsNumbered number value k
numbered number None k e = cc
numbered number (Some x) k e = record { cards = x; is = refl; number_is = (let same : number x ≡ k = cc in same) }

-- what full hands are worth keeps the order of their values
pub worth_ordered : (st : State) (runout : List (List ℕ)) (n : ℕ) → board_size st.game ≡ 0 → ((h : ℕ) → h < n → IsFull st.game (own_after st runout h) (board_after st runout))
    → AreOrdered (only_side st.game) st runout n (worth_after (only_side st.game) st runout)
worth_ordered st runout n none full = record {
  some = λ h l. ap is_some (value h l).is;
  order = λ i j l m.
      let a = value i l in
      let b = value j m in
      ap (λ o. is_beaten_by (only_side st.game) o (value_after (only_side st.game) st runout j)) a.is ∙ ap (λ o. is_beaten_by (only_side st.game) (Some a.cards) o) b.is
      ∙ best-KeepOrder (only_side st.game) st.game (own_after st runout j) (board_after st runout) b.cards (own_after st runout i) (board_after st runout) a.cards (full j m) b.is (full i l) a.is
      ∙ ap (λ k. nat_lt k (side_number (only_side st.game) st.game b.cards)) a.number_is ∙ ap (λ k. nat_lt (worth_after (only_side st.game) st runout i) k) b.number_is;
}
  where
    value : (h : ℕ) → h < n → IsNumbered (side_number (only_side st.game) st.game) (value_after (only_side st.game) st runout h) (worth_after (only_side st.game) st runout h)
    value h l =
        let f = full h l in
        let board : board_after st runout ≡ [] = no_cards (board_after st runout) (f.board_size ∙ none) in
        numbered (side_number (only_side st.game) st.game) (value_after (only_side st.game) st runout h) (worth_after (only_side st.game) st runout h)
        (ap (λ cards. option_map (side_number (only_side st.game) st.game) (best (only_side st.game) st.game (own_after st runout h) cards)) board
        ∙ number_is st.game (own_after st runout h) none f.own_size f.own_cards)

-- the place of a runout among the counts of the only side
pub only_one : (game : Game) (side : Side) → has_two_sides game ≡ false → has_side side game ≡ true → side ≡ only_side game
only_one Holdem High e h = refl
only_one Holdem Low e h = cc
only_one Omaha High e h = refl
only_one Omaha Low e h = cc
only_one Omaha8 side e h = absurd (true≢false e)
only_one Stud High e h = refl
only_one Stud Low e h = cc
only_one Stud8 side e h = absurd (true≢false e)
only_one Razz High e h = cc
only_one Razz Low e h = refl
only_one Draw5 High e h = refl
only_one Draw5 Low e h = cc
only_one Lowball27 High e h = cc
only_one Lowball27 Low e h = refl
only_one Triple27 High e h = cc
only_one Triple27 Low e h = refl

no_low : (game : Game) → has_two_sides game ≡ false → only_side game ≡ High → has_side Low game ≡ false
no_low Holdem e h = refl
no_low Omaha e h = refl
no_low Omaha8 e h = absurd (true≢false e)
no_low Stud e h = refl
no_low Stud8 e h = absurd (true≢false e)
no_low Razz e h = cc
no_low Draw5 e h = refl
no_low Lowball27 e h = cc
no_low Triple27 e h = cc

pub only_place : (side : Side) (deal : Showdown) (pot : ℕ) (runout : List (List ℕ)) → has_two_sides deal.state.game ≡ false → has_side side deal.state.game ≡ true → count_place deal pot side runout ≡ side_outcome side deal pot runout
only_place High deal pot runout one has =
    let lows : winners deal pot Low runout ≡ [] = no_side Low deal pot runout (no_low deal.state.game one (sym (only_one deal.state.game High one has))) in
    ap (λ ws. side_outcome High deal pot runout + low_mark (set_of_players ws)) lows ∙ omega arith
only_place Low deal pot runout one has = refl

-- who wins a pot after a runout
pub outcome_is : (side : Side) (deal : Showdown) (pot : ℕ) (runout : List (List ℕ)) → board_size deal.state.game ≡ 0 → has_two_sides deal.state.game ≡ false → has_side side deal.state.game ≡ true
    → ((h : ℕ) → h < length deal.state.hands → IsFull deal.state.game (own_after deal.state runout h) (board_after deal.state runout)) → AreBelow (length deal.state.hands) (eligible_in deal pot)
    → count_place deal pot side runout ≡ best_set (worth_after (only_side deal.state.game) deal.state runout) (eligible_in deal pot)
outcome_is side deal pot runout none one has full below =
    only_place side deal pot runout one has
    ∙ ap (λ s. side_outcome s deal pot runout) (only_one deal.state.game side one has)
    ∙ ordered_outcome (only_side deal.state.game) deal pot (length deal.state.hands) runout (worth_after (only_side deal.state.game) deal.state runout) (worth_ordered deal.state runout (length deal.state.hands) none full) below
