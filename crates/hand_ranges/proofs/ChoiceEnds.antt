-- How the runouts of a choice end, by the set that wins beside the board that each fills.
use Rattle.std.proofs.Common.{◌≡◌, ℕ, zero, suc, ◌+◌, ◌-◌, ◌*◌, ◌<◌, ◌≤◌, ◌^◌, List, [], ◌∷◌, ◌++◌, length, refl, sym, ap, ◌∙◌, arith, Bool, true, cond}
use Rattle.std.specs.Prelude.{Some, nat_lt, slice_index_or}
use Rattle.std.specs.List.{sum_by, count_by, list_all}
use Rattle.std.specs.Option.{option_map}
use Rattle.std.proofs.lemmas.Bool.{lt-ltb}
use Rattle.std.proofs.lemmas.List.{length-map}
use Rattle.std.proofs.lemmas.List.Sums.{sum_by-cons}
use Rattle.card_sets.specs.Cards.{union, IsCardSet}
use Rattle.card_sets.specs.Choose.{choose}
use Rattle.card_sets.specs.Rising.{IsRising-cards_where, rising-IsCardSet}
use Rattle.card_sets.specs.PlayerSets.{hands_below, set_of_players}
use Rattle.card_sets.specs.declared.games.Game.TheVariants.{Holdem}
use Rattle.card_sets.specs.declared.games.Game.{Game}
use Rattle.card_sets.specs.declared.games.Side.{Side}
use Rattle.card_sets.specs.declared.games.Side.TheVariants.{High, Low}
use Rattle.card_sets.proofs.CallerLemmas.{Apart-apart, union-nil}
use Rattle.runout_ranges.specs.Runouts.{HasMember}
use Rattle.runout_ranges.specs.Slots.{slots, unseen, slot_of, counts_of, dealt}
use Rattle.runout_ranges.specs.declared.shapes.Receiver.TheVariants.{Board, Hand}
use Rattle.showdown_tally.specs.Laws.{IsFull, KeepOrder}
use Rattle.showdown_tally.specs.Numbers.{side_number}
use Rattle.showdown_tally.specs.SetShares.{set_cell}
use Rattle.showdown_tally.specs.Settling.{number_of, ended}
use Rattle.showdown_tally.specs.Showdown.{best, value_after, own_after, board_after, winners, part_of, units, wins, ties, loses}
use Rattle.showdown_tally.specs.Sides.{side_outcome}
use Rattle.showdown_tally.specs.Tallies.{cell_over, runouts_after}
use Rattle.showdown_tally.proofs.CallerLemmas.{set_again, pot_cell, no_side, pot_winners, KeptSide, kept_side, is_set, runout_deals, Deals, Sound, full_own, full_board, full_apart}
use Rattle.range_lines.specs.declared.spot.Weighted.{Weighted}
use Rattle.hand_ranges.specs.Boards.{adds_beside, board_adds, boards_add, is_off, numbers_beside, winners_beside}
use Rattle.range_lines.specs.Choices.{hands_in, deal_of_choice, full_cell, full_runouts, full_units, runouts_of_choice, walked, weight_of}
use Rattle.range_lines.specs.RangeSpot.{Ranges}
use Rattle.range_lines.specs.Sound.{AreHands, IsSound}
use Rattle.hand_ranges.specs.Taken.{number_beside}
use Rattle.hand_ranges.proofs.ApartChoices.{sum_same}
use Rattle.hand_ranges.proofs.BoardSums.{is_free, off_board, over_free_boards, runout_of, sum_chosen, walked_alike, walked_passing, walked_sum}
use Rattle.range_lines.proofs.CallerLemmas.{AreTwos, of_twos, slots_twos}
use Rattle.hand_ranges.proofs.FullBoards.{hand_facts, mask_bit, plays_all}
use Rattle.range_lines.proofs.CallerLemmas.{board_small, choice_runouts}
use Rattle.range_lines.proofs.CallerLemmas.{hands_twos}

-- every law that numbers keep the order of values
abbrev pub KeepsOrder : Type 0
KeepsOrder = (side : Side) (game : Game) (own board value rival_own rival_board rival_value : List ℕ) → IsFull game own board → best side game own board ≡ Some value → IsFull game rival_own rival_board → best side game rival_own rival_board ≡ Some rival_value → KeepOrder side game value rival_value

-- nothing is dealt to a hand
dealt_hand : (lacks : ℕ) (runout : List (List ℕ)) (hand : ℕ) → dealt (slot_of Board lacks ++ []) runout (Hand hand) ≡ []
dealt_hand zero runout hand = refl
dealt_hand (suc n) [] hand = refl
dealt_hand (suc n) (set ∷ runout) hand = refl

own_same : (board dead : List ℕ) (hands : List (List ℕ)) (runout : List (List ℕ)) (h : ℕ) → AreTwos hands → IsCardSet (slice_index_or hands h []) → own_after (of_twos board dead hands) runout h ≡ slice_index_or hands h []
own_same board dead hands runout h twos is =
    ap (λ some. union (slice_index_or hands h []) (dealt some runout (Hand h))) (slots_twos board dead hands twos)
    ∙ ap (union (slice_index_or hands h [])) (dealt_hand (5 - length board) runout h) ∙ union-nil (slice_index_or hands h []) is

-- the board gets the cards
board_gets : (lacks : ℕ) (cards board : List ℕ) → (lacks ≡ 0 → cards ≡ []) → union board (dealt (slot_of Board lacks ++ []) (runout_of lacks cards) Board) ≡ union board cards
board_gets zero cards board none = ap (union board) (sym (none refl))
board_gets (suc n) cards board none = refl

pub board_then : (board dead cards : List ℕ) (hands : List (List ℕ)) → AreTwos hands → (5 - length board ≡ 0 → cards ≡ []) → board_after (of_twos board dead hands) (runout_of (5 - length board) cards) ≡ union board cards
board_then board dead cards hands twos none =
    ap (λ some. union board (dealt some (runout_of (5 - length board) cards) Board)) (slots_twos board dead hands twos) ∙ board_gets (5 - length board) cards board none

-- hands of a choice and a board that isn't too large are what a deal may have
sound_choice : (board dead : List ℕ) (choice : List Weighted) → length board ≤ 5 → AreHands board dead choice → Sound (of_twos board dead (hands_in choice))
sound_choice board dead choice few are =
    let at : (h : ℕ) → h < length (hands_in choice) → h < length choice = λ h l. omega (arith, length-map choice (λ w. w.hand), l) in
    record {
      board_fits = few;
      hand_fits = λ i l. let facts = hand_facts board dead choice i are (at i l) in omega (arith, facts.1);
      apart = λ i l. let facts = hand_facts board dead choice i are (at i l) in Apart-apart (slice_index_or (hands_in choice) i []) board facts.2;
    }

-- the hands that win are those with the greatest numbers beside the board
pub outcome_beside : (board dead : List ℕ) (choice : List Weighted) (runout : List (List ℕ)) → IsCardSet board → length board ≤ 5 → AreHands board dead choice → HasMember (runouts_after (of_twos board dead (hands_in choice))) runout → KeepsOrder
    → side_outcome High (deal_of_choice board dead choice) 0 runout ≡ winners_beside (board_after (of_twos board dead (hands_in choice)) runout) choice
unfolding winners_beside
outcome_beside board dead choice runout is few are member keeps =
    let s = of_twos board dead (hands_in choice) in
    let full = board_after s runout in
    let n = length choice in
    let values = numbers_beside full choice in
    let twos = hands_twos board dead choice are in
    let sound = sound_choice board dead choice few are in
    let deals : Deals (unseen s) (counts_of (slots s)) runout = runout_deals (unseen s) (counts_of (slots s)) runout (IsRising-cards_where _) member in
    let there : (h : ℕ) → h < n → h < length (hands_in choice) = λ h l. omega (arith, length-map choice (λ w. w.hand), l) in
    let whole : (h : ℕ) → h < n → IsFull Holdem (own_after s runout h) full = λ h l. record {
      own_cards = rising-IsCardSet _ (IsRising-cards_where _);
      board_cards = rising-IsCardSet _ (IsRising-cards_where _);
      own_size = full_own s runout h sound deals (there h l) (hand_facts board dead choice h are l).0;
      board_size = full_board s runout sound deals is;
      apart = full_apart s runout h sound deals (there h l);
    } in
    let number : (h : ℕ) → h < n → number_of values h ≡ option_map (side_number High Holdem) (value_after High s runout h) = λ h l.
    numbers full choice h l ∙ ap (λ own. option_map (side_number High Holdem) (best High Holdem own full)) (sym (own_same board dead (hands_in choice) runout h twos (hand_facts board dead choice h are l).0)) in
    let kept : KeptSide High (value_after High s runout) values n =
    kept_side High (side_number High Holdem) (value_after High s runout) values n number
    (λ i j x y l m e f. keeps High Holdem (own_after s runout i) full x (own_after s runout j) full y (whole i l) e (whole j m) f) in
    ap set_of_players (pot_winners High (deal_of_choice board dead choice) 0 runout values (2 ^ n - 1) n (plays_all n) kept)
  where
    numbers : (full : List ℕ) (choice : List Weighted) (h : ℕ) → h < length choice → number_of (numbers_beside full choice) h ≡ number_beside full (slice_index_or (hands_in choice) h [])
    numbers full [] h l = absurd (omega arith)
    numbers full (w ∷ choice) zero l = refl
    numbers full (w ∷ choice) (suc h) l = numbers full choice h (omega arith)

-- ---- a hand's cell and units over runouts, by the sets that win

cell_beside : (board dead : List ℕ) (choice : List Weighted) (hand : ℕ) (runout : List (List ℕ)) → hand < length choice
    → cell_over (deal_of_choice board dead choice) (runout ∷ []) 0 hand High ≡ set_cell (length choice) hand (side_outcome High (deal_of_choice board dead choice) 0 runout)
cell_beside board dead choice hand runout l =
    let deal = deal_of_choice board dead choice in
    let n = length choice in
    let mask = 2 ^ n - 1 in
    let inside : nat_lt hand n ≡ true = lt-ltb hand n l in
    let bit : is_set mask hand ≡ true = rw (mask_bit n hand l) refl in
    pot_cell High deal 0 hand runout mask n (winners deal 0 High runout) (plays_all n) refl
    ∙ (rw (inside, bit) (ap (λ tops. ended tops hand) (sym (set_again deal 0 mask n High runout (plays_all n)))))

units_beside : (board dead : List ℕ) (choice : List Weighted) (hand : ℕ) (runout : List (List ℕ))
    → units (deal_of_choice board dead choice) 0 hand runout ≡ part_of 5040 (hands_below (side_outcome High (deal_of_choice board dead choice) 0 runout) (length choice)) hand
units_beside board dead choice hand runout =
    let deal = deal_of_choice board dead choice in
    let n = length choice in
    let mask = 2 ^ n - 1 in
    ap (λ lows. part_of 5040 (winners deal 0 High runout) hand + part_of 5040 lows hand) (no_side Low deal 0 runout refl)
    ∙ (let z : part_of 5040 (winners deal 0 High runout) hand + 0 ≡ part_of 5040 (winners deal 0 High runout) hand = omega arith in z)
    ∙ ap (λ tops. part_of 5040 tops hand) (sym (set_again deal 0 mask n High runout (plays_all n)))

one_count : {X : Type 0} (p : X → Bool) (x : X) (n : ℕ) → count_by p (x ∷ []) ≡ n → cond (p x) 1 0 ≡ n
one_count p x n e = omega (arith, e, sum_by-cons (λ y. cond (p y) 1 0) x [])

count_sum : {X : Type 0} (p : X → Bool) (f : X → ℕ) (xs : List X) → ((x : X) → count_by p (x ∷ []) ≡ f x) → sum_by f xs ≡ count_by p xs
count_sum p f xs same = sum_same xs f (λ x. cond (p x) 1 0) (λ x. sym (one_count p x (f x) (same x)))

-- what a function of the winning set adds up to over all runouts
abbrev pub over_runouts : List ℕ → List ℕ → (ℕ → ℕ) → List Weighted → ℕ
over_runouts board dead by_set choice =
    sum_by (λ runout. by_set (side_outcome High (deal_of_choice board dead choice) 0 runout)) (runouts_after (deal_of_choice board dead choice).state)

pub wins_over : (board dead : List ℕ) (choice : List Weighted) (hand n : ℕ) → length choice ≡ n → hand < n → over_runouts board dead (λ set. (set_cell n hand set).win) choice ≡ (full_cell board dead hand choice).win
wins_over board dead choice hand n long l =
    let deal = deal_of_choice board dead choice in
    rw (← long) (count_sum (wins deal 0 hand High) (λ r. (set_cell (length choice) hand (side_outcome High deal 0 r)).win) (runouts_after deal.state) (λ r. ap (λ c. c.win) (cell_beside board dead choice hand r (omega (arith, long, l)))))

pub ties_over : (board dead : List ℕ) (choice : List Weighted) (hand n : ℕ) → length choice ≡ n → hand < n → over_runouts board dead (λ set. (set_cell n hand set).tie) choice ≡ (full_cell board dead hand choice).tie
ties_over board dead choice hand n long l =
    let deal = deal_of_choice board dead choice in
    rw (← long) (count_sum (ties deal 0 hand High) (λ r. (set_cell (length choice) hand (side_outcome High deal 0 r)).tie) (runouts_after deal.state) (λ r. ap (λ c. c.tie) (cell_beside board dead choice hand r (omega (arith, long, l)))))

pub losses_over : (board dead : List ℕ) (choice : List Weighted) (hand n : ℕ) → length choice ≡ n → hand < n → over_runouts board dead (λ set. (set_cell n hand set).lose) choice ≡ (full_cell board dead hand choice).lose
losses_over board dead choice hand n long l =
    let deal = deal_of_choice board dead choice in
    rw (← long) (count_sum (loses deal 0 hand High) (λ r. (set_cell (length choice) hand (side_outcome High deal 0 r)).lose) (runouts_after deal.state) (λ r. ap (λ c. c.lose) (cell_beside board dead choice hand r (omega (arith, long, l)))))

pub units_over_all : (board dead : List ℕ) (choice : List Weighted) (hand n : ℕ) → length choice ≡ n → over_runouts board dead (λ set. part_of 5040 (hands_below set n) hand) choice ≡ full_units board dead hand choice
units_over_all board dead choice hand n long =
    let deal = deal_of_choice board dead choice in
    rw (← long) (sum_same (runouts_after deal.state) (λ r. part_of 5040 (hands_below (side_outcome High deal 0 r) (length choice)) hand) (units deal 0 hand) (λ r. sym (units_beside board dead choice hand r)))

-- ---- boards and runouts of a choice

sum_members : {X : Type 0} (xs : List X) (f g : X → ℕ) → ((x : X) → HasMember xs x → f x ≡ g x) → sum_by f xs ≡ sum_by g xs
sum_members [] f g same = refl
sum_members (x ∷ xs) f g same =
    let here : f x ≡ g x = same x ([], xs, refl) in
    let rest = sum_members xs f g (λ y m. same y (x ∷ m.0, m.1, ap (λ l. x ∷ l) m.2)) in
    omega (arith, here, rest, sum_by-cons f x xs, sum_by-cons g x xs)

sum_times : {X : Type 0} (xs : List X) (weight each : ℕ) (f : X → ℕ) → sum_by (λ x. weight * f x + each) xs ≡ weight * sum_by f xs + each * length xs
sum_times [] weight each f = omega arith
sum_times (x ∷ xs) weight each f =
    let rest = sum_times xs weight each f in
    let split : weight * (f x + sum_by f xs) ≡ weight * f x + weight * sum_by f xs = omega arith in
    let all : weight * sum_by f (x ∷ xs) ≡ weight * (f x + sum_by f xs) = ap (λ n. weight * n) (sum_by-cons f x xs) in
    let more : each * suc (length xs) ≡ each + each * length xs = omega arith in
    omega (arith, rest, split, all, more, sum_by-cons (λ x. weight * f x + each) x xs)

-- what a choice adds beside all boards that none of its hands meets is what it adds over its runouts
pub choice_boards : (board dead : List ℕ) (choice : List Weighted) (by_set : ℕ → ℕ) (each : ℕ) → IsCardSet board → length board ≤ 5 → AreHands board dead choice → KeepsOrder
    → sum_by (λ cards. cond (list_all (is_off (union board cards)) choice) (adds_beside (union board cards) by_set each choice) 0) (choose (5 - length board) (unseen (of_twos board dead [])))
    ≡ weight_of choice * over_runouts board dead by_set choice + each * full_runouts board dead choice
choice_boards board dead choice by_set each is few are keeps =
    let hands = hands_in choice in
    let s = of_twos board dead hands in
    let twos = hands_twos board dead choice are in
    let F : List (List ℕ) → ℕ = λ r. adds_beside (board_after s r) by_set each choice in
    sum_chosen (5 - length board) (unseen (of_twos board dead [])) _ (λ cards. cond (list_all (is_free hands) cards) (F (runout_of (5 - length board) cards)) 0)
    (λ cards none. ap (λ b. cond b (adds_beside (union board cards) by_set each choice) 0) (off_board board dead cards choice are)
    ∙ ap (λ full. cond (list_all (is_free hands) cards) (adds_beside full by_set each choice) 0) (sym (board_then board dead cards hands twos none)))
    ∙ sym (over_free_boards board dead hands F twos)
    ∙ sum_members (runouts_after s) F (λ r. weight_of choice * by_set (side_outcome High (deal_of_choice board dead choice) 0 r) + each)
    (λ r m. ap (λ k. weight_of choice * by_set k + each) (sym (outcome_beside board dead choice r is few are m keeps)))
    ∙ sum_times (runouts_after s) (weight_of choice) each (λ r. by_set (side_outcome High (deal_of_choice board dead choice) 0 r))

-- Boards outside and choices inside add up to choices outside and runouts inside.
pub boards_walked : (spot : Ranges) (by_set : ℕ → ℕ) (each : ℕ) → IsSound spot → KeepsOrder
    → boards_add spot.ranges spot.board (5 - length spot.board) (unseen (of_twos spot.board spot.dead [])) by_set each
    ≡ walked spot.ranges [] (λ choice. weight_of choice * over_runouts spot.board spot.dead by_set choice + each * runouts_of_choice spot)
boards_walked spot by_set each sound keeps =
    let board = spot.board in
    let dead = spot.dead in
    let all = choose (5 - length board) (unseen (of_twos board dead [])) in
    sum_same all (λ cards. board_adds spot.ranges (union board cards) by_set each) _
    (λ cards. walked_passing (is_off (union board cards)) spot.ranges [] (adds_beside (union board cards) by_set each) refl)
    ∙ walked_sum spot.ranges [] (λ cards choice. cond (list_all (is_off (union board cards)) choice) (adds_beside (union board cards) by_set each choice) 0) all
    ∙ walked_alike board dead (length spot.ranges) spot.ranges [] _ _ sound.each tt refl (omega arith)
    (λ choice are d long. choice_boards board dead choice by_set each sound.board_set (board_small (length board) sound.fits) are keeps
    ∙ ap (λ n. weight_of choice * over_runouts board dead by_set choice + each * n) (choice_runouts spot choice sound are d long))
