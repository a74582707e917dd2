-- The runouts of a leaf of draws: each gives the last hand a draw, and the others what they have.
use Rattle.std.proofs.Common.{◌≡◌, ℕ, suc, ◌+◌, ◌<◌, ◌≤◌, ◌==◌, ◌&&◌, not, Bool, true, false, cond, List, [], ◌∷◌, ◌++◌, length, map, take, refl, sym, ap, ◌∙◌, arith, subst, inl, inr}
use Rattle.std.specs.Prelude.{slice_index, nat_le, nat_lt}
use Rattle.std.specs.List.{count_by, slice_range}
use Rattle.std.proofs.lemmas.Bool.{cases_eq, cases_lt, and_parts}
use Rattle.std.proofs.lemmas.List.Sums.{sum_by-cons}
use mathlib.Core.Bool.{true≢false}
use Rattle.card_sets.specs.Cards.{union, IsCardSet}
use Rattle.card_sets.specs.Choose.{choose}
use Rattle.card_sets.specs.Disjoint.{all_apart}
use Rattle.card_sets.specs.Games.{own_size, board_size, all_fit, has_board, has_side, only_side}
use Rattle.card_sets.specs.PlayerSets.{AreBelow}
use Rattle.card_sets.specs.Rising.{IsRising-cards_where}
use Rattle.card_sets.specs.State.{State}
use Rattle.card_sets.specs.declared.games.Game.{Game}
use Rattle.card_sets.specs.declared.games.Game.TheVariants.{Holdem, Omaha, Omaha8, Stud, Stud8, Razz, Draw5, Lowball27, Triple27}
use Rattle.card_sets.specs.declared.games.Side.{Side}
use Rattle.card_sets.specs.declared.games.Side.TheVariants.{High, Low}
use Rattle.runout_ranges.specs.Runouts.{HasMember}
use Rattle.runout_ranges.specs.Slots.{counts_of, dealt, slots, unseen}
use Rattle.runout_ranges.specs.declared.shapes.Receiver.TheVariants.{Hand}
use Rattle.runout_ranges.specs.declared.shapes.Slot.{Slot}
use Rattle.showdown_tally.proofs.CallerLemmas.{Deals, runout_deals, hand_of, hand_IsFull}
use Rattle.showdown_tally.specs.Laws.{IsFull}
use Rattle.showdown_tally.specs.Showdown.{Showdown, has_two_sides, own_after, board_after, eligible_in}
use Rattle.showdown_tally.specs.SideCounts.{count_place}
use Rattle.showdown_tally.specs.Sides.{side_outcome}
use Rattle.showdown_tally.specs.Tallies.{runouts_after}
use Rattle.runout_walk.specs.Bests.{best_set, best_value, some_set}
use Rattle.draw_runouts.specs.Draws.{last_hand, most_draw}
use Rattle.runout_walk.specs.Listing.{last_count}
use Rattle.runout_walk.specs.OneMore.{set_place}
use Rattle.draw_runouts.specs.LastHand.{count_both, value_with}
use Rattle.draw_runouts.specs.Worth.{IsDraw, AreNumbers, full_worth, number_of, worth, worth_after}
use Rattle.runout_walk.proofs.CallerLemmas.{count_map, count_same, in_range, place_is, set-same, value-same}
use Rattle.draw_runouts.proofs.DrawLists.{map_same}
use Rattle.draw_runouts.proofs.DrawSlots.{IsLastOf, last_deal, last_of_hands, last_set, no_board_slots, other_set}
use Rattle.draw_runouts.proofs.DrawWinners.{outcome_is}
use Rattle.draw_runouts.proofs.LowWinners.{high_is, low_is}

-- what is asked of draws
no_board_size : (game : Game) → not (has_board game) ≡ true → board_size game ≡ 0
no_board_size Holdem e = absurd (true≢false (sym e))
no_board_size Omaha e = absurd (true≢false (sym e))
no_board_size Omaha8 e = absurd (true≢false (sym e))
no_board_size Stud e = refl
no_board_size Stud8 e = refl
no_board_size Razz e = refl
no_board_size Draw5 e = refl
no_board_size Lowball27 e = refl
no_board_size Triple27 e = refl

pub draws_parts : (game : Game) (count : ℕ) → (not (has_board game) && nat_lt 0 count && nat_le count (most_draw game)) ≡ true → (board_size game ≡ 0) × (0 < count) × (count ≤ 3)
draws_parts game count e =
    let two = and_parts (not (has_board game) && nat_lt 0 count) (nat_le count (most_draw game)) e in
    let one = and_parts (not (has_board game)) (nat_lt 0 count) two.0 in
    (no_board_size game one.0, some count one.1, few (has_two_sides game) count two.1)
  where
    some : (n : ℕ) → nat_lt 0 n ≡ true → 0 < n
    some n h = elim (cases_lt 0 n) [ inl l ↦ l | inr ge ↦ (let f : nat_lt 0 n ≡ false = grind arith in absurd (true≢false (sym h ∙ f))) ]

    few : (b : Bool) (n : ℕ) → nat_le n (cond b 2 3) ≡ true → n ≤ 3
    few true n h = elim (cases_lt 2 n) [ inl l ↦ (let f : nat_le n 2 ≡ false = grind arith in absurd (true≢false (sym h ∙ f))) | inr ge ↦ omega arith ]
    few false n h = elim (cases_lt 3 n) [ inl l ↦ (let f : nat_le n 3 ≡ false = grind arith in absurd (true≢false (sym h ∙ f))) | inr ge ↦ ge ]

-- of a game for both sides there are fewer
pub few_of_two : (game : Game) (count : ℕ) → (not (has_board game) && nat_lt 0 count && nat_le count (most_draw game)) ≡ true → has_two_sides game ≡ true → count ≤ 2
few_of_two game count e two =
    let P : Bool → Type 0 = λ b. nat_le count (cond b 2 3) ≡ true in
    few count (subst P two (and_parts (not (has_board game) && nat_lt 0 count) (nat_le count (most_draw game)) e).1)
  where
    few : (n : ℕ) → nat_le n 2 ≡ true → n ≤ 2
    few n h = elim (cases_lt 2 n) [ inl l ↦ (let f : nat_le n 2 ≡ false = grind arith in absurd (true≢false (sym h ∙ f))) | inr ge ↦ ge ]

-- the last slot is that of a hand that lacks cards
pub last_inside : (st : State) → board_size st.game ≡ 0 → 0 < length (slots st) → (last_hand (slots st) < length st.hands) × (0 < last_count (slots st))
last_inside st none some =
    let e = no_board_slots st none in
    let is : IsLastOf (own_size st.game) 0 st.hands = last_of_hands (own_size st.game) 0 st.hands (let l = ap length e in omega arith) in
    let P : List Slot → Type 0 = λ l. (last_hand l < length st.hands) × (0 < last_count l) in
    subst P (sym e) ((let i = is.inside in omega arith), is.some)

-- a runout by what it deals before the last slot, and the last draw
pub record IsLeafDraw (st : State) (front : List (List ℕ)) (draw : List ℕ) : Type 0 where
  pub full : (h : ℕ) → h < length st.hands → IsFull st.game (own_after st (front ++ draw ∷ []) h) (board_after st (front ++ draw ∷ []))
  pub size : length draw ≡ last_count (slots st)
  pub last : own_after st (front ++ draw ∷ []) (last_hand (slots st)) ≡ union (hand_of st (last_hand (slots st))) draw
  pub others : (h : ℕ) → (h ≡ last_hand (slots st) → ⊥) → own_after st (front ++ draw ∷ []) h ≡ union (hand_of st h) (dealt (slots st) front (Hand h))
  pub is_draw : IsDraw st.game (hand_of st (last_hand (slots st))) draw

pub leaf_draw : (game : Game) (count : ℕ) (hands : List (List ℕ)) (board dead : List ℕ) (front : List (List ℕ)) (draw : List ℕ) → all_apart (board ∷ dead ∷ hands) ≡ true → all_fit game board hands ≡ true → board_size game ≡ 0
    → (let st : State = record { game = game; hands = take count hands; board = board; dead = dead } in
    ((h : ℕ) → h < length st.hands → IsCardSet (hand_of st h)) → IsCardSet board → suc (length front) ≡ length (slots st) → HasMember (runouts_after st) (front ++ draw ∷ []) → IsLeafDraw st front draw)
leaf_draw game count hands board dead front draw disjoint fits none sets board_set size member =
    let st : State = record { game = game; hands = take count hands; board = board; dead = dead } in
    let runout = front ++ draw ∷ [] in
    let deals : Deals (unseen st) (counts_of (slots st)) runout = runout_deals (unseen st) (counts_of (slots st)) runout (IsRising-cards_where _) member in
    let dealt_last = last_deal (slots st) (unseen st) front draw deals size in
    let inside = last_inside st none (omega arith) in
    let e = no_board_slots st none in
    let P : List Slot → Type 0 = λ l. dealt l (front ++ draw ∷ []) (Hand (last_hand l)) ≡ draw in
    let there : dealt (slots st) (front ++ draw ∷ []) (Hand (last_hand (slots st))) ≡ draw = subst P (sym e) (last_set (own_size game) 0 st.hands front draw (size ∙ ap length e)) in
    let full : (h : ℕ) → h < length st.hands → IsFull game (own_after st runout h) (board_after st runout) = (λ h l. hand_IsFull game count hands board dead runout h disjoint fits member l (sets h l) board_set) in
    let last : own_after st runout (last_hand (slots st)) ≡ union (hand_of st (last_hand (slots st))) draw = ap (union (hand_of st (last_hand (slots st)))) there in
    record {
      full = full;
      size = dealt_last.0;
      last = last;
      others = λ h ne. ap (union (hand_of st h)) (other_set (slots st) front draw h size ne);
      is_draw = record { rising = dealt_last.1; full = ap length (sym last) ∙ (full (last_hand (slots st)) inside.0).own_size };
    }

-- what the others have on a side, as numbers
abbrev pub AreOthers : Side → State → List (List ℕ) → List ℕ → Type 0
AreOthers side st front numbers = (h : ℕ) → h < length st.hands → length (union (hand_of st h) (dealt (slots st) front (Hand h))) ≡ own_size st.game
    → slice_index numbers h ≡ full_worth side st.game (union (hand_of st h) (dealt (slots st) front (Hand h)))

-- with the number of the last draw they are those of all hands
numbers_agree : (side : Side) (st : State) (front : List (List ℕ)) (draw numbers : List ℕ) (last h : ℕ) → last ≡ last_hand (slots st) → IsLeafDraw st front draw → AreOthers side st front numbers → h < length st.hands
    → value_with numbers last (worth side st.game (hand_of st last) draw) h ≡ worth_after side st (front ++ draw ∷ []) h
numbers_agree side st front draw numbers last h at is others l = elim (cases_eq h last) [
  | inl same ↦
      let t : (h == last) ≡ true = grind arith in
      rw t (ap (λ k. worth side st.game (hand_of st k) draw) at ∙ ap (full_worth side st.game) (sym is.last) ∙ ap (λ k. worth_after side st (front ++ draw ∷ []) k) (sym (same ∙ at)))
  | inr ne ↦
      let f : (h == last) ≡ false = grind arith in
      let own = is.others h (λ e. ne (e ∙ sym at)) in
      rw f (others h l (ap length (sym own) ∙ (is.full h l).own_size) ∙ ap (full_worth side st.game) (sym own))
]

-- so the sets that win by them are the same
pub leaf_set : (side : Side) (st : State) (last : ℕ) (front : List (List ℕ)) (taken more numbers hands : List ℕ) → AreBelow (length st.hands) hands → last ≡ last_hand (slots st) → taken ≡ [] → AreOthers side st front numbers → IsLeafDraw st front (taken ++ more)
    → best_set (value_with numbers last (worth side st.game (hand_of st last) more)) hands ≡ best_set (worth_after side st (front ++ (taken ++ more) ∷ [])) hands
leaf_set side st last front taken more numbers hands below at empty others leaf =
    let draw : taken ++ more ≡ more = ap (λ l. l ++ more) empty in
    ap (λ d. best_set (value_with numbers last (worth side st.game (hand_of st last) d)) hands) (sym draw)
    ∙ set-same (value_with numbers last (worth side st.game (hand_of st last) (taken ++ more))) (worth_after side st (front ++ (taken ++ more) ∷ [])) (length st.hands) hands below
    (λ h l. numbers_agree side st front (taken ++ more) numbers last h at leaf others l)

pub leaf_some_set : (side : Side) (st : State) (last : ℕ) (front : List (List ℕ)) (taken more numbers hands : List ℕ) → AreBelow (length st.hands) hands → last ≡ last_hand (slots st) → taken ≡ [] → AreOthers side st front numbers → IsLeafDraw st front (taken ++ more)
    → some_set (value_with numbers last (worth side st.game (hand_of st last) more)) hands ≡ some_set (worth_after side st (front ++ (taken ++ more) ∷ [])) hands
leaf_some_set side st last front taken more numbers hands below at empty others leaf =
    let draw : taken ++ more ≡ more = ap (λ l. l ++ more) empty in
    let best : best_value (value_with numbers last (worth side st.game (hand_of st last) more)) hands ≡ best_value (worth_after side st (front ++ (taken ++ more) ∷ [])) hands =
    ap (λ d. best_value (value_with numbers last (worth side st.game (hand_of st last) d)) hands) (sym draw)
    ∙ value-same (value_with numbers last (worth side st.game (hand_of st last) (taken ++ more))) (worth_after side st (front ++ (taken ++ more) ∷ [])) (length st.hands) hands below
    (λ h l. numbers_agree side st front (taken ++ more) numbers last h at leaf others l) in
    ap (λ n. cond (n == 0) 0 (best_set (value_with numbers last (worth side st.game (hand_of st last) more)) hands)) best
    ∙ ap (λ n. cond (best_value (worth_after side st (front ++ (taken ++ more) ∷ [])) hands == 0) 0 n) (leaf_set side st last front taken more numbers hands below at empty others leaf)

-- how often each set wins a pot of one side, by the numbers of the last hand
pub leaf_counts : (side : Side) (deal : Showdown) (pot set last : ℕ) (front : List (List ℕ)) (taken numbers values : List ℕ) (range : List (List ℕ)) → board_size deal.state.game ≡ 0 → has_two_sides deal.state.game ≡ false → has_side side deal.state.game ≡ true
    → AreBelow (length deal.state.hands) (eligible_in deal pot) → last ≡ last_hand (slots deal.state) → taken ≡ [] → AreOthers (only_side deal.state.game) deal.state front numbers
    → ((more : List ℕ) → HasMember range more → IsLeafDraw deal.state front (taken ++ more)) → values ≡ map (worth (only_side deal.state.game) deal.state.game (hand_of deal.state last)) range
    → count_by (λ value. best_set (value_with numbers last value) (eligible_in deal pot) == set) values ≡ count_by (λ runout. count_place deal pot side runout == set) (map (λ more. front ++ (taken ++ more) ∷ []) range)
leaf_counts side deal pot set last front taken numbers values range none one has below at empty others all is =
    let st : State = deal.state in
    let only : Side = only_side st.game in
    ap (count_by (λ value. best_set (value_with numbers last value) (eligible_in deal pot) == set)) is
    ∙ count_map (λ value. best_set (value_with numbers last value) (eligible_in deal pot) == set) (worth only st.game (hand_of st last)) range
    ∙ count_same (λ more. best_set (value_with numbers last (worth only st.game (hand_of st last) more)) (eligible_in deal pot) == set) (λ more. count_place deal pot side (front ++ (taken ++ more) ∷ []) == set) range
    (λ more m.
    let leaf = all more m in
    ap (λ k. k == set) (
    leaf_set only st last front taken more numbers (eligible_in deal pot) below at empty others leaf
    ∙ sym (outcome_is side deal pot (front ++ (taken ++ more) ∷ []) none one has leaf.full below)))
    ∙ sym (count_map (λ runout. count_place deal pot side runout == set) (λ more. front ++ (taken ++ more) ∷ []) range)

-- numbers of two lists that pass together, by the draws that they are numbers of
count_of_both : (p : ℕ → ℕ → Bool) (f g : List ℕ → ℕ) (q : List ℕ → Bool) (range : List (List ℕ)) → ((more : List ℕ) → HasMember range more → p (f more) (g more) ≡ q more) → count_both p (map f range) (map g range) ≡ count_by q range
count_of_both p f g q [] same = refl
count_of_both p f g q (x ∷ xs) same =
    ap (λ b. cond b 1 0 + count_both p (map f xs) (map g xs)) (same x ([], xs, refl))
    ∙ ap (λ n. cond (q x) 1 0 + n) (count_of_both p f g q xs (λ y m. same y (x ∷ m.0, m.1, ap (λ l. x ∷ l) m.2)))
    ∙ sym (sum_by-cons (λ y. cond (q y) 1 0) x xs)

-- the same of both sides of a pot, the low and the high with the mark of a low
pub leaf_sides : (side : Side) (deal : Showdown) (pot set last : ℕ) (front : List (List ℕ)) (taken highs lows values low_values : List ℕ) (range : List (List ℕ)) → board_size deal.state.game ≡ 0 → has_two_sides deal.state.game ≡ true
    → AreBelow (length deal.state.hands) (eligible_in deal pot) → last ≡ last_hand (slots deal.state) → taken ≡ [] → AreOthers (only_side deal.state.game) deal.state front highs → AreOthers Low deal.state front lows
    → ((more : List ℕ) → HasMember range more → IsLeafDraw deal.state front (taken ++ more))
    → values ≡ map (worth (only_side deal.state.game) deal.state.game (hand_of deal.state last)) range → low_values ≡ map (worth Low deal.state.game (hand_of deal.state last)) range
    → count_both (λ value low. set_place side (best_set (value_with highs last value) (eligible_in deal pot)) (some_set (value_with lows last low) (eligible_in deal pot)) == set) values low_values
    ≡ count_by (λ runout. count_place deal pot side runout == set) (map (λ more. front ++ (taken ++ more) ∷ []) range)
leaf_sides side deal pot set last front taken highs lows values low_values range none two below at empty others low_others all is low_is_map =
    let st : State = deal.state in
    let only : Side = only_side st.game in
    let hands : List ℕ = eligible_in deal pot in
    let place : ℕ → ℕ → Bool = λ value low. set_place side (best_set (value_with highs last value) hands) (some_set (value_with lows last low) hands) == set in
    ap (λ l. count_both place l low_values) is
    ∙ ap (λ l. count_both place (map (worth only st.game (hand_of st last)) range) l) low_is_map
    ∙ count_of_both place (worth only st.game (hand_of st last)) (worth Low st.game (hand_of st last)) (λ more. count_place deal pot side (front ++ (taken ++ more) ∷ []) == set) range
    (λ more m.
    let leaf = all more m in
    let runout = front ++ (taken ++ more) ∷ [] in
    ap (λ k. k == set) (
    ap (λ n. set_place side n (some_set (value_with lows last (worth Low st.game (hand_of st last) more)) hands)) (leaf_set only st last front taken more highs hands below at empty others leaf ∙ sym (high_is deal pot runout none two leaf.full below))
    ∙ ap (λ n. set_place side (side_outcome High deal pot runout) n) (leaf_some_set Low st last front taken more lows hands below at empty low_others leaf ∙ sym (low_is deal pot runout none two leaf.full below))
    ∙ place_is side deal pot runout))
    ∙ sym (count_map (λ runout. count_place deal pot side runout == set) (λ more. front ++ (taken ++ more) ∷ []) range)

-- the numbers of a range of draws are what the last hand is worth with them
pub leaf_values : (side : Side) (st : State) (front rows : List (List ℕ)) (planes : List (List ℕ)) (taken rest : List ℕ) (count last lo hi : ℕ) → count ≡ last_count (slots st) → last ≡ last_hand (slots st) → 0 < count → AreNumbers count side st.game (hand_of st last) rows planes → taken ≡ []
    → ((more : List ℕ) → HasMember (choose count rest) more → IsLeafDraw st front (taken ++ more))
    → map (number_of rows planes) (slice_range (choose count rest) lo hi) ≡ map (worth side st.game (hand_of st last)) (slice_range (choose count rest) lo hi)
leaf_values side st front rows planes taken rest count last lo hi size at some right empty all =
    map_same (number_of rows planes) (worth side st.game (hand_of st last)) (slice_range (choose count rest) lo hi) (λ more m.
    let leaf = all more (in_range (choose count rest) lo hi more m) in
    let draw : taken ++ more ≡ more = ap (λ l. l ++ more) empty in
    let P : List ℕ → Type 0 = λ d. IsDraw st.game (hand_of st (last_hand (slots st))) d in
    let Q : ℕ → Type 0 = λ k. IsDraw st.game (hand_of st k) more in
    right more some (ap length (sym draw) ∙ leaf.size ∙ sym size) (subst Q (sym at) (subst P draw leaf.is_draw)))
