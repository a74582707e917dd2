-- Who wins the two sides of a pot in a game without a board: the high as where there is one side, and the low by numbers of which 0 is
-- that of a hand without one.
use Rattle.std.proofs.Common.{◌≡◌, ℕ, ◌+◌, ◌<◌, ◌≤◌, ◌==◌, ◌&&◌, ◌^◌, not, Bool, true, false, cond, List, [], ◌∷◌, length, max, refl, sym, ap, ◌∙◌, arith, inl, inr, Option, Some, None, subst}
use Rattle.std.specs.Prelude.{filter, nat_lt, is_some, slice_index}
use Rattle.std.specs.List.{list_all}
use Rattle.std.specs.Option.{option_map}
use Rattle.std.proofs.Math.Nat.{pow-le-pow_right}
use Rattle.std.proofs.lemmas.Bool.{cases_eq}
use mathlib.Core.Bool.{true≢false}
use Rattle.card_sets.specs.Games.{board_size, only_side}
use Rattle.card_sets.specs.PlayerSets.{AreBelow, set_of_players, hands_below, has_player}
use Rattle.card_sets.specs.State.{State}
use Rattle.card_sets.specs.declared.games.Game.{Game}
use Rattle.card_sets.specs.declared.games.Game.TheVariants.{Holdem, Omaha, Omaha8, Stud, Stud8, Razz, Draw5, Lowball27, Triple27}
use Rattle.card_sets.specs.declared.games.Side.{Side}
use Rattle.card_sets.specs.declared.games.Side.TheVariants.{High, Low}
use Rattle.rank_low.specs.Low.{ace_number}
use Rattle.rank_low.proofs.CallerLemmas.{ace_number-lt}
use Rattle.showdown_tally.proofs.CallerLemmas.{best-KeepOrder, is-eight, mask_below}
use Rattle.showdown_tally.specs.Laws.{IsFull}
use Rattle.showdown_tally.specs.Numbers.{side_number, turned}
use Rattle.showdown_tally.specs.Showdown.{has_two_sides, Showdown, best, is_beaten_by, winners, own_after, board_after, value_after, eligible_in}
use Rattle.showdown_tally.specs.Sides.{side_outcome}
use Rattle.runout_walk.specs.Bests.{best_value, best_set, some_set}
use Rattle.draw_runouts.specs.LastHand.{others_of, value_with, winner_by}
use Rattle.draw_runouts.specs.Worth.{or_zero, worth_after}
use Rattle.runout_walk.proofs.CallerLemmas.{at_most, filter-same, not_less_max, ordered_outcome}
use Rattle.draw_runouts.proofs.DrawWinners.{best_others, best_split, no_cards, ones_are, ones_of, pick_same, winner_is, worth_ordered}

-- the high of two sides
only_high : (game : Game) → has_two_sides game ≡ true → only_side game ≡ High
only_high Holdem e = refl
only_high Omaha e = refl
only_high Omaha8 e = refl
only_high Stud e = refl
only_high Stud8 e = refl
only_high Razz e = absurd (true≢false (sym e))
only_high Draw5 e = refl
only_high Lowball27 e = absurd (true≢false (sym e))
only_high Triple27 e = absurd (true≢false (sym e))

pub high_is : (deal : Showdown) (pot : ℕ) (runout : List (List ℕ)) → board_size deal.state.game ≡ 0 → has_two_sides deal.state.game ≡ true
    → ((h : ℕ) → h < length deal.state.hands → IsFull deal.state.game (own_after deal.state runout h) (board_after deal.state runout)) → AreBelow (length deal.state.hands) (eligible_in deal pot)
    → side_outcome High deal pot runout ≡ best_set (worth_after (only_side deal.state.game) deal.state runout) (eligible_in deal pot)
high_is deal pot runout none two full below =
    ap (λ s. side_outcome s deal pot runout) (sym (only_high deal.state.game two))
    ∙ ordered_outcome (only_side deal.state.game) deal pot (length deal.state.hands) runout (worth_after (only_side deal.state.game) deal.state runout) (worth_ordered deal.state runout (length deal.state.hands) none full) below

-- the numbers keep the order of the values that there are, and the others have 0
record AreRanked (side : Side) (st : State) (runout : List (List ℕ)) (n : ℕ) (v : ℕ → ℕ) : Type 0 where
  some : (h : ℕ) → h < n → is_some (value_after side st runout h) ≡ nat_lt 0 (v h)
  order : (i j : ℕ) → i < n → j < n → is_some (value_after side st runout i) ≡ true → is_beaten_by side (value_after side st runout i) (value_after side st runout j) ≡ nat_lt (v i) (v j)

unbeaten : (side : Side) (st : State) (runout : List (List ℕ)) (n i : ℕ) (v : ℕ → ℕ) (hands : List ℕ) → AreRanked side st runout n v → i < n → is_some (value_after side st runout i) ≡ true → AreBelow n hands
    → list_all (λ j. not (is_beaten_by side (value_after side st runout i) (value_after side st runout j))) hands ≡ not (nat_lt (v i) (best_value v hands))
unbeaten side st runout n i v [] ranked l some below = let z : nat_lt (v i) 0 ≡ false = grind arith in rw z refl
unbeaten side st runout n i v (j ∷ hands) ranked l some below =
    ap (λ b. not b && list_all (λ j. not (is_beaten_by side (value_after side st runout i) (value_after side st runout j))) hands) (ranked.order i j l below.0 some)
    ∙ ap (λ b. not (nat_lt (v i) (v j)) && b) (unbeaten side st runout n i v hands ranked l some below.1)
    ∙ not_less_max (v i) (v j) (best_value v hands)

-- a hand is among the winners where it has a number and none is greater
and_same : (a b c : Bool) → (a ≡ true → b ≡ c) → (a && b) ≡ (a && c)
and_same true b c h = h refl
and_same false b c h = refl

some_test : (t value : ℕ) → 0 < t → value ≤ t → (nat_lt 0 value && not (nat_lt value t)) ≡ (value == t)
some_test t value some most = elim (cases_eq value 0) [
  | inl z ↦
      let f : nat_lt 0 value ≡ false = grind arith in
      let g : (value == t) ≡ false = grind arith in
      rw (f, g) refl
  | inr p ↦
      let f : nat_lt 0 value ≡ true = grind arith in
      rw f (at_most value t most)
]

some_filter : (v : ℕ → ℕ) (t : ℕ) (hands : List ℕ) → 0 < t → best_value v hands ≤ t → filter (λ h. nat_lt 0 (v h) && not (nat_lt (v h) t)) hands ≡ filter (λ h. v h == t) hands
some_filter v t [] some l = refl
some_filter v t (h ∷ hands) some l =
    ap (λ b. cond b (h ∷ filter (λ h. nat_lt 0 (v h) && not (nat_lt (v h) t)) hands) (filter (λ h. nat_lt 0 (v h) && not (nat_lt (v h) t)) hands)) (some_test t (v h) some (omega arith))
    ∙ ap (λ l. cond (v h == t) (h ∷ l) l) (some_filter v t hands some (omega arith))

none_filter : (v : ℕ → ℕ) (t : ℕ) (hands : List ℕ) → best_value v hands ≡ 0 → filter (λ h. nat_lt 0 (v h) && not (nat_lt (v h) t)) hands ≡ []
none_filter v t [] e = refl
none_filter v t (h ∷ hands) e =
    let zero : v h ≡ 0 = omega arith in
    let f : nat_lt 0 (v h) ≡ false = grind arith in
    rw f (none_filter v t hands (omega arith))

some_winners : (v : ℕ → ℕ) (hands : List ℕ) → set_of_players (filter (λ h. nat_lt 0 (v h) && not (nat_lt (v h) (best_value v hands))) hands) ≡ some_set v hands
some_winners v hands = elim (cases_eq (best_value v hands) 0) [
  | inl z ↦
      let q : (best_value v hands == 0) ≡ true = grind arith in
      ap set_of_players (none_filter v (best_value v hands) hands z) ∙ ap (λ b. cond b 0 (best_set v hands)) (sym q)
  | inr p ↦
      let q : (best_value v hands == 0) ≡ false = grind arith in
      ap set_of_players (some_filter v (best_value v hands) hands (omega arith) (omega arith)) ∙ ap (λ b. cond b 0 (best_set v hands)) (sym q)
]

outcome_some : (side : Side) (deal : Showdown) (pot n : ℕ) (runout : List (List ℕ)) (v : ℕ → ℕ) → AreRanked side deal.state runout n v → AreBelow n (eligible_in deal pot) → side_outcome side deal pot runout ≡ some_set v (eligible_in deal pot)
unfolding winners
outcome_some side deal pot n runout v ranked below =
    let st : State = deal.state in
    let hands : List ℕ = eligible_in deal pot in
    ap set_of_players (filter-same (λ i. is_some (value_after side st runout i) && list_all (λ j. not (is_beaten_by side (value_after side st runout i) (value_after side st runout j))) hands) (λ i. nat_lt 0 (v i) && not (nat_lt (v i) (best_value v hands))) n hands below (λ i l.
    and_same (is_some (value_after side st runout i)) (list_all (λ j. not (is_beaten_by side (value_after side st runout i) (value_after side st runout j))) hands) (not (nat_lt (v i) (best_value v hands))) (λ some. unbeaten side st runout n i v hands ranked l some below)
    ∙ ap (λ b. b && not (nat_lt (v i) (best_value v hands))) (ranked.some i l)))
    ∙ some_winners v hands

-- a low has a number above 0
some_number : (own : List ℕ) (low : Option (List ℕ)) → IsFull Stud8 own [] → best Low Stud8 own [] ≡ low → is_some low ≡ nat_lt 0 (or_zero (option_map (side_number Low Stud8) low))
some_number own None full e = refl
some_number own (Some value) full e =
    let small = ace_number-lt value (is-eight Stud8 own [] value full e) in
    let number : 0 < turned (ace_number value) = omega (arith, small) in
    let t : nat_lt 0 (turned (ace_number value)) ≡ true = grind arith in
    sym t

in_order : (mine other : List ℕ) (low rival : Option (List ℕ)) → IsFull Stud8 mine [] → IsFull Stud8 other [] → best Low Stud8 mine [] ≡ low → best Low Stud8 other [] ≡ rival → is_some low ≡ true
    → is_beaten_by Low low rival ≡ nat_lt (or_zero (option_map (side_number Low Stud8) low)) (or_zero (option_map (side_number Low Stud8) rival))
in_order mine other None rival full also e f some = absurd (true≢false (sym some))
in_order mine other (Some value) None full also e f some = let t : nat_lt (turned (ace_number value)) 0 ≡ false = grind arith in sym t
in_order mine other (Some value) (Some better) full also e f some = best-KeepOrder Low Stud8 other [] better mine [] value also f full e

-- the low of a game without a board
ranked_by : (game : Game) (st : State) (runout : List (List ℕ)) (n : ℕ) → st.game ≡ game → board_size game ≡ 0 → has_two_sides game ≡ true → ((h : ℕ) → h < n → IsFull st.game (own_after st runout h) (board_after st runout))
    → AreRanked Low st runout n (worth_after Low st runout)
ranked_by Holdem st runout n is none two full = absurd (omega arith)
ranked_by Omaha st runout n is none two full = absurd (omega arith)
ranked_by Omaha8 st runout n is none two full = absurd (omega arith)
ranked_by Stud st runout n is none two full = absurd (true≢false (sym two))
ranked_by Stud8 st runout n is none two full = record {
  some = λ h l. ap is_some (value h l) ∙ some_number (own_after st runout h) (best Low Stud8 (own_after st runout h) []) (whole h l) refl ∙ ap (nat_lt 0) (sym (number h));
  order = λ i j l m some.
      ap (λ o. is_beaten_by Low o (value_after Low st runout j)) (value i l) ∙ ap (λ o. is_beaten_by Low (best Low Stud8 (own_after st runout i) []) o) (value j m)
      ∙ in_order (own_after st runout i) (own_after st runout j) (best Low Stud8 (own_after st runout i) []) (best Low Stud8 (own_after st runout j) []) (whole i l) (whole j m) refl refl (ap is_some (sym (value i l)) ∙ some)
      ∙ ap (λ k. nat_lt k (or_zero (option_map (side_number Low Stud8) (best Low Stud8 (own_after st runout j) [])))) (sym (number i)) ∙ ap (nat_lt (worth_after Low st runout i)) (sym (number j));
}
  where
    board : (h : ℕ) → h < n → board_after st runout ≡ []
    board h l = no_cards (board_after st runout) ((full h l).board_size ∙ ap board_size is)

    whole : (h : ℕ) → h < n → IsFull Stud8 (own_after st runout h) []
    whole h l =
        let P : Game → Type 0 = λ g. IsFull g (own_after st runout h) (board_after st runout) in
        let Q : List ℕ → Type 0 = λ cards. IsFull Stud8 (own_after st runout h) cards in
        subst Q (board h l) (subst P is (full h l))

    value : (h : ℕ) → h < n → value_after Low st runout h ≡ best Low Stud8 (own_after st runout h) []
    value h l = ap (λ cards. best Low st.game (own_after st runout h) cards) (board h l) ∙ ap (λ g. best Low g (own_after st runout h) []) is

    number : (h : ℕ) → worth_after Low st runout h ≡ or_zero (option_map (side_number Low Stud8) (best Low Stud8 (own_after st runout h) []))
    number h = ap (λ g. or_zero (option_map (side_number Low g) (best Low g (own_after st runout h) []))) is
ranked_by Razz st runout n is none two full = absurd (true≢false (sym two))
ranked_by Draw5 st runout n is none two full = absurd (true≢false (sym two))
ranked_by Lowball27 st runout n is none two full = absurd (true≢false (sym two))
ranked_by Triple27 st runout n is none two full = absurd (true≢false (sym two))

pub low_is : (deal : Showdown) (pot : ℕ) (runout : List (List ℕ)) → board_size deal.state.game ≡ 0 → has_two_sides deal.state.game ≡ true
    → ((h : ℕ) → h < length deal.state.hands → IsFull deal.state.game (own_after deal.state runout h) (board_after deal.state runout)) → AreBelow (length deal.state.hands) (eligible_in deal pot)
    → side_outcome Low deal pot runout ≡ some_set (worth_after Low deal.state runout) (eligible_in deal pot)
low_is deal pot runout none two full below =
    outcome_some Low deal pot (length deal.state.hands) runout (worth_after Low deal.state runout) (ranked_by deal.state.game deal.state runout (length deal.state.hands) refl none two full) below

-- who wins the low of a pot, by the number of the last hand
decided : (t s bit value : ℕ) (b : Bool) → winner_by t (cond (t == 0) 0 s) (cond (t == 0) 0 (s + cond b bit 0)) (cond b bit (cond (t == 0) 0 s)) value
    ≡ cond (max t (cond b value 0) == 0) 0 (winner_by t s (s + cond b bit 0) (cond b bit s) value)
decided t s bit value true = elim (cases_eq t 0) [
  | inl z ↦
      let q : (t == 0) ≡ true = grind arith in
      let f : nat_lt value t ≡ false = grind arith in
      elim (cases_eq value 0) [
        | inl none ↦
            let k : max t value ≡ 0 = omega arith in
            let m : (max t value == 0) ≡ true = grind arith in
            let g : (value == t) ≡ true = grind arith in
            rw (q, m, f, g) refl
        | inr some ↦
            let k : 0 < max t value = omega arith in
            let m : (max t value == 0) ≡ false = grind arith in
            let g : (value == t) ≡ false = grind arith in
            rw (q, m, f, g) refl
      ]
  | inr p ↦
      let q : (t == 0) ≡ false = grind arith in
      let k : 0 < max t value = omega arith in
      let m : (max t value == 0) ≡ false = grind arith in
      rw (q, m) refl
]
decided t s bit value false = elim (cases_eq t 0) [
  | inl z ↦
      let q : (t == 0) ≡ true = grind arith in
      let k : max t 0 ≡ 0 = omega arith in
      let m : (max t 0 == 0) ≡ true = grind arith in
      rw (q, m) (pick_same 0 (nat_lt value t) (value == t))
  | inr p ↦
      let q : (t == 0) ≡ false = grind arith in
      let k : 0 < max t 0 = omega arith in
      let m : (max t 0 == 0) ≡ false = grind arith in
      rw (q, m) refl
]

pub low_winner_is : (values : List ℕ) (mask l n t s below equal above value : ℕ) → l < n → t ≡ best_value (slice_index values) (others_of l (hands_below mask n)) → s ≡ best_set (slice_index values) (others_of l (hands_below mask n))
    → below ≡ cond (t == 0) 0 s → equal ≡ cond (t == 0) 0 (s + cond (has_player mask l) (2 ^ l) 0) → above ≡ cond (has_player mask l) (2 ^ l) (cond (t == 0) 0 s)
    → winner_by t below equal above value ≡ some_set (value_with values l value) (hands_below mask n)
low_winner_is values mask l n t s below equal above value inside top set is_below is_equal is_above =
    ap (λ k. winner_by t k equal above value) is_below ∙ ap (λ k. winner_by t (cond (t == 0) 0 s) k above value) is_equal ∙ ap (λ k. winner_by t (cond (t == 0) 0 s) (cond (t == 0) 0 (s + cond (has_player mask l) (2 ^ l) 0)) k value) is_above
    ∙ decided t s (2 ^ l) value (has_player mask l)
    ∙ ap (λ n. cond (n == 0) 0 (winner_by t s (s + cond (has_player mask l) (2 ^ l) 0) (cond (has_player mask l) (2 ^ l) s) value)) (sym (best_is (has_player mask l) refl))
    ∙ ap (λ w. cond (best_value (value_with values l value) (hands_below mask n) == 0) 0 w) (winner_is values mask l n t s (s + cond (has_player mask l) (2 ^ l) 0) (cond (has_player mask l) (2 ^ l) s) value inside top set refl refl)
  where
    agree : (h : ℕ) → (h ≡ l → ⊥) → slice_index values h ≡ value_with values l value h
    agree h ne = let f : (h == l) ≡ false = grind arith in rw f refl

    here : value_with values l value l ≡ value
    here = let t : (l == l) ≡ true = grind arith in rw t refl

    best_top : t ≡ best_value (value_with values l value) (others_of l (hands_below mask n))
    best_top = top ∙ best_others (slice_index values) (value_with values l value) l (hands_below mask n) agree

    inside_is : nat_lt l n ≡ true
    inside_is = grind arith

    one : (b : Bool) → best_value (value_with values l value) (cond b (l ∷ []) []) ≡ cond b value 0
    one true = (let z : max (value_with values l value l) 0 ≡ value_with values l value l = omega arith in z) ∙ here
    one false = refl

    best_is : (b : Bool) → has_player mask l ≡ b → best_value (value_with values l value) (hands_below mask n) ≡ max t (cond b value 0)
    best_is b e =
        let once : ones_of l (hands_below mask n) ≡ cond b (l ∷ []) [] = ones_are mask l n ∙ rw (inside_is, e) refl in
        best_split (value_with values l value) l (hands_below mask n)
        ∙ ap (λ k. max k (best_value (value_with values l value) (ones_of l (hands_below mask n)))) (sym best_top)
        ∙ ap (λ xs. max t (best_value (value_with values l value) xs)) once
        ∙ ap (λ k. max t k) (one b)

-- the set that wins a pot is one of ten hands
small_best : (v : ℕ → ℕ) (mask n : ℕ) → n ≤ 10 → best_set v (hands_below mask n) < 1024
small_best v mask n few =
    let power : 2 ^ n ≤ 2 ^ 10 = pow-le-pow_right (let z : 0 < 2 = omega arith in z) few in
    let set : best_set v (hands_below mask n) < 2 ^ n = mask_below (λ h. v h == best_value v (hands_below mask n)) mask n in
    omega (arith, set, power)

-- and the best of the others with one hand more, if that plays
pub small_with : (values : List ℕ) (mask l n t s : ℕ) → l < n → n ≤ 10 → t ≡ best_value (slice_index values) (others_of l (hands_below mask n)) → s ≡ best_set (slice_index values) (others_of l (hands_below mask n)) → s + cond (has_player mask l) (2 ^ l) 0 < 1024
small_with values mask l n t s inside few top set =
    let both : ℕ = s + cond (has_player mask l) (2 ^ l) 0 in
    let wins : winner_by t s both (cond (has_player mask l) (2 ^ l) s) t ≡ best_set (value_with values l t) (hands_below mask n) = winner_is values mask l n t s both (cond (has_player mask l) (2 ^ l) s) t inside top set refl refl in
    let same : winner_by t s both (cond (has_player mask l) (2 ^ l) s) t ≡ both =
    (let f : nat_lt t t ≡ false = grind arith in
    let q : (t == t) ≡ true = grind arith in
    rw (f, q) refl) in
    omega (arith, wins, same, small_best (value_with values l t) mask n few)
