-- Boards that lack one card.
use Rattle.std.proofs.Common.{◌≡◌, ℕ, suc, ◌+◌, ◌<◌, ◌≤◌, ◌==◌, List, [], ◌∷◌, ◌++◌, length, map, take, get_or, refl, sym, ap, ◌∙◌, cond, arith, subst, Bool, true, set, inl, inr, get_or-set_same, get_or-set_other}
use Rattle.std.specs.Prelude.{slice_index}
use Rattle.std.proofs.lemmas.Bool.{cases_eq, cases_lt, and_parts}
use Rattle.std.specs.List.{count_by, slice_range}
use Rattle.card_sets.specs.Cards.{rank_of, suit_of, union}
use Rattle.card_sets.specs.Choose.{choose}
use Rattle.card_sets.specs.Games.{has_board}
use Rattle.card_sets.specs.PlayerSets.{AreBelow}
use Rattle.card_sets.specs.Rising.{rising-IsCardSet}
use Rattle.card_sets.specs.State.{State, state_of}
use Rattle.card_sets.specs.declared.games.Side.TheVariants.{High}
use Rattle.omaha_ranks.specs.Omaha.{ArePlaced, SameRanks}
use Rattle.rank_high.specs.Parts.{count_of_suit}
use Rattle.runout_ranges.specs.Runouts.{HasMember}
use Rattle.runout_ranges.specs.Shapes.{slots_of}
use Rattle.runout_ranges.specs.Slots.{slots, unseen}
use Rattle.runout_ranges.specs.declared.shapes.Shape.{Shape}
use Rattle.showdown_tally.specs.Settling.{number_of}
use Rattle.showdown_tally.specs.Showdown.{Showdown, own_after, board_after, eligible_in}
use Rattle.showdown_tally.specs.SideCounts.{CountsGrow}
use Rattle.showdown_tally.specs.Sides.{side_outcome}
use Rattle.showdown_tally.specs.Tallies.{runouts_after}
use Rattle.showdown_tally.specs.declared.table.Table.{Table}
use Rattle.showdown_tally.proofs.CallerLemmas.{IsChoice, hand_of}
use Rattle.runout_walk.specs.Bests.{best_set}
use Rattle.board_runouts.specs.Highs.{high_of, plain_of}
use Rattle.board_runouts.specs.Boards.{board_lacks}
use Rattle.board_ranks.specs.BoardWith.{low_number}
use Rattle.board_ranks.specs.HighParts.{flush_part, plain_number}
use Rattle.board_runouts.specs.KeptRows.{AreWorthsAfter, HasNoFlush}
use Rattle.board_runouts.specs.Rivers.{IsShortFor, IsWonBy, are_rivers}
use Rattle.board_ranks.specs.Suits.{AreMost}
use Rattle.board_ranks.specs.Values.{one_of}
use Rattle.board_runouts.specs.declared.sides.Worths.{Worths}
use Rattle.board_runouts.specs.declared.spot.BoardSpot.{BoardSpot}
use Rattle.board_runouts.proofs.HighWinners.{Keeps}
use Rattle.runout_walk.proofs.CallerLemmas.{set-same, map_take, grow_more, member-map, taken_none, map-map, range-map, choose-one}
use Rattle.board_runouts.proofs.BoardDealt.{IsScene, board_for, full_of, outcome_of, scene_of}
use Rattle.board_runouts.proofs.BoardLeaf.{front_none}
use Rattle.board_runouts.proofs.BoardRunouts.{board_alone, board_apart, count-union, own_alone, set_of_member}
use Rattle.board_runouts.proofs.HighNumbers.{low_is}
use Rattle.board_ranks.proofs.CallerLemmas.{count_one, high_of_few, same_low, same_plain}

-- how many cards of the board pass a test with a last card
card-count : (f : ℕ → Bool) (st : State) (card : ℕ) → IsScene st (card ∷ []) → count_by f (board_after st ((card ∷ []) ∷ [])) ≡ count_by f st.board + cond (f card) 1 0
card-count f st card s =
    let choice : IsChoice (board_lacks (slots st)) 0 (unseen st) (card ∷ []) = set_of_member st (card ∷ []) s.alone s.member in
    let and_parts : count_by f (union st.board (card ∷ [])) ≡ count_by f st.board + count_by f (card ∷ []) = count-union f st.board (card ∷ []) s.board (rising-IsCardSet (card ∷ []) choice.1) (board_apart st (card ∷ []) choice.2) in
    let there : count_by f (board_after st ((card ∷ []) ∷ [])) ≡ count_by f (union st.board (card ∷ [])) = ap (count_by f) (board_alone st (card ∷ []) s.alone) in
    omega (arith, and_parts, there, count_one f card)

-- a card that may come last is in the deck
pub in_deck : (st : State) (card : ℕ) → IsScene st (card ∷ []) → card < 52
in_deck st card s = (set_of_member st (card ∷ []) s.alone s.member).1.1

-- a hand and the board
placed_at : (st : State) (card h : ℕ) → IsScene st (card ∷ []) → h < length st.hands → ArePlaced (hand_of st h) (board_after st ((card ∷ []) ∷ []))
placed_at st card h s l = record {
  own_cards = s.hands h l;
  board_cards = (full_of st (card ∷ []) h s l).board_cards;
  apart = (board_for st (card ∷ []) (board_after st ((card ∷ []) ∷ [])) s refl).away h l;
}

-- cards of one rank make boards of the same ranks
same_boards : (st : State) (a b : ℕ) → IsScene st (a ∷ []) → IsScene st (b ∷ []) → rank_of a ≡ rank_of b → SameRanks (board_after st ((a ∷ []) ∷ [])) (board_after st ((b ∷ []) ∷ []))
same_boards st a b s t same = λ r l.
    omega (arith, card-count (λ c. rank_of c == r) st a s, card-count (λ c. rank_of c == r) st b t, ap {B = ℕ} (λ (k : ℕ). cond (k == r) 1 0) same)

-- what the hands are worth with one card of a rank they are worth with each
pub worths_of_rank : (st : State) (card other : ℕ) (board : List ℕ) (worths : Worths) → IsScene st (card ∷ []) → IsScene st (other ∷ []) → rank_of other ≡ rank_of card → board ≡ union st.board (card ∷ [])
    → ((h : ℕ) → h < length st.hands → slice_index worths.highs h ≡ plain_number st.game (hand_of st h) board)
    → ((h : ℕ) → h < length st.hands → number_of worths.lows h ≡ low_number st.game (hand_of st h) board)
    → AreWorthsAfter st ((other ∷ []) ∷ []) worths
worths_of_rank st card other board worths s t same b highs lows =
    let there : board ≡ board_after st ((card ∷ []) ∷ []) = b ∙ sym (board_alone st (card ∷ []) s.alone) in
    record {
      as_highs = λ h l.
          highs h l ∙ ap (plain_number st.game (hand_of st h)) there
          ∙ same_plain st.game (hand_of st h) (board_after st ((card ∷ []) ∷ [])) (board_after st ((other ∷ []) ∷ [])) s.game (placed_at st card h s l) (placed_at st other h t l) (same_boards st card other s t (sym same))
          ∙ ap (λ own. plain_number st.game own (board_after st ((other ∷ []) ∷ []))) (sym (own_alone st (other ∷ []) h t.alone (t.hands h l)));
      as_lows = record {
        numbers = λ h l.
            lows h l ∙ ap (low_number st.game (hand_of st h)) there
            ∙ same_low st.game (hand_of st h) (board_after st ((card ∷ []) ∷ [])) (board_after st ((other ∷ []) ∷ [])) s.game (placed_at st card h s l) (placed_at st other h t l) (same_boards st card other s t (sym same))
            ∙ ap (λ own. low_number st.game own (board_after st ((other ∷ []) ∷ []))) (sym (own_alone st (other ∷ []) h t.alone (t.hands h l)))
            ∙ low_is st.game (own_after st ((other ∷ []) ∷ []) h) (board_after st ((other ∷ []) ∷ [])) s.game;
        full = λ h l. full_of st (other ∷ []) h t l;
      };
    }

-- a last card that makes nobody five of a suit makes nobody a flush
no_flush : (st : State) (most : List ℕ) (card : ℕ) → IsScene st (card ∷ []) → AreMost st most → IsShortFor most (suit_of card) → HasNoFlush st ((card ∷ []) ∷ [])
no_flush st most card s greatest short h l =
    let full = full_of st (card ∷ []) h s l in
    high_of_few st.game (own_after st ((card ∷ []) ∷ []) h) (board_after st ((card ∷ []) ∷ [])) s.game full.own_size (record { own_cards = full.own_cards; board_cards = full.board_cards; apart = full.apart }) (λ suit b.
    let own : flush_part st.game (count_of_suit (own_after st ((card ∷ []) ∷ []) h) suit) ≡ flush_part st.game (count_of_suit (hand_of st h) suit) =
    ap (λ cards. flush_part st.game (count_of_suit cards suit)) (own_alone st (card ∷ []) h s.alone (s.hands h l)) in
    let most_h : flush_part st.game (count_of_suit (hand_of st h) suit) + count_of_suit st.board suit ≤ slice_index most suit = greatest h suit l b in
    let less : slice_index most suit + one_of (suit_of card) suit ≤ 4 = short suit b in
    let all = card-count (λ c. suit_of c == suit) st card s in
    omega (arith, own, all, most_h, less))

-- who wins the high then by ranks alone wins it
pub ranked_high : (deal : Showdown) (pot card high low : ℕ) (most : List ℕ) → Keeps → IsScene deal.state (card ∷ []) → AreBelow (length deal.state.hands) (eligible_in deal pot) → AreMost deal.state most → IsShortFor most (suit_of card)
    → IsWonBy deal pot ((card ∷ []) ∷ []) high low → high ≡ side_outcome High deal pot ((card ∷ []) ∷ [])
ranked_high deal pot card high low most keeps s below greatest short won =
    won.high_set
    ∙ sym (outcome_of deal pot (card ∷ []) keeps s below ∙ set-same (high_of deal.state ((card ∷ []) ∷ [])) (plain_of deal.state ((card ∷ []) ∷ [])) (length deal.state.hands) (eligible_in deal pot) below (no_flush deal.state most card s greatest short))

-- and hand by hand it is right in any case
pub each_high : (deal : Showdown) (pot card won : ℕ) → Keeps → IsScene deal.state (card ∷ []) → AreBelow (length deal.state.hands) (eligible_in deal pot) → won ≡ best_set (high_of deal.state ((card ∷ []) ∷ [])) (eligible_in deal pot)
    → won ≡ side_outcome High deal pot ((card ∷ []) ∷ [])
each_high deal pot card won keeps s below w = w ∙ sym (outcome_of deal pot (card ∷ []) keeps s below)

-- the runouts of a leaf are single cards of the rest
pub record IsRiver (spot : BoardSpot) (front : List (List ℕ)) (taken rest : List ℕ) : Type 0 where
  pub none : front ≡ []
  pub first : taken ≡ []
  pub members : (card : ℕ) → HasMember rest card → HasMember (runouts_after (state_of spot.table.known)) ((card ∷ []) ∷ [])

one_choice : (rest : List ℕ) (card : ℕ) → HasMember rest card → HasMember (choose 1 rest) (card ∷ [])
one_choice rest card m =
    let P : List (List ℕ) → Type 0 = λ l. HasMember l (card ∷ []) in
    subst P (sym (choose-one rest)) (member-map (λ x. x ∷ []) rest card m)

pub river_of : (spot : BoardSpot) (table : Table) (front : List (List ℕ)) (taken rest : List ℕ) (left lo hi : ℕ) → spot.table ≡ table → board_lacks (slots (state_of spot.table.known)) ≡ 1 → suc (length front) ≡ length (slots (state_of table.known)) → left ≡ 1
    → ((more : List ℕ) → HasMember (choose left rest) more → HasMember (runouts_after (state_of table.known)) (front ++ (taken ++ more) ∷ [])) → lo < hi → hi ≤ length (choose left rest) → IsRiver spot front taken rest
river_of spot table front taken rest left lo hi same one last deep all order inside =
    let st : State = state_of spot.table.known in
    let S : Table → Type 0 = λ t. suc (length front) ≡ length (slots (state_of t.known)) in
    let none : front ≡ [] = front_none st front spot.alone (subst S (sym same) last) in
    let M : Table → Type 0 = λ t. (more : List ℕ) → HasMember (choose left rest) more → HasMember (runouts_after (state_of t.known)) (front ++ (taken ++ more) ∷ []) in
    let L : ℕ → Type 0 = λ n. (more : List ℕ) → HasMember (choose n rest) more → HasMember (runouts_after st) (front ++ (taken ++ more) ∷ []) in
    let F : List (List ℕ) → Type 0 = λ f. (more : List ℕ) → HasMember (choose 1 rest) more → HasMember (runouts_after st) (f ++ (taken ++ more) ∷ []) in
    let members : F [] = subst F none (subst L deep (subst M (sym same) all)) in
    let size : (more : List ℕ) → HasMember (choose 1 rest) more → length (taken ++ more) ≡ 1 = (λ more m.
    let scene : IsScene st (taken ++ more) = scene_of spot (taken ++ more) (members more m) in
    (set_of_member st (taken ++ more) scene.alone scene.member).0 ∙ one) in
    let count : length (choose left rest) ≡ length (choose 1 rest) = ap (λ n. length (choose n rest)) deep in
    let first : taken ≡ [] = taken_none taken rest 1 1 lo hi refl order (omega (arith, inside, count)) size in
    let T : List ℕ → Type 0 = λ t. (more : List ℕ) → HasMember (choose 1 rest) more → HasMember (runouts_after st) ((t ++ more) ∷ []) in
    let alone : T [] = subst T first members in
    record {
      none = none;
      first = first;
      members = λ card m. alone (card ∷ []) (one_choice rest card m);
    }

-- counts that grow by cards of the rest grow by the runouts of the leaf
pub grow_rivers : (deal : Showdown) (front : List (List ℕ)) (taken rest cards : List ℕ) (left lo hi : ℕ) (old new : List (List ℕ)) → left ≡ 1 → front ≡ [] → taken ≡ [] → cards ≡ rest
    → CountsGrow deal (map (λ card. (card ∷ []) ∷ []) (slice_range cards lo hi)) old new → CountsGrow deal (map (λ more. front ++ (taken ++ more) ∷ []) (slice_range (choose left rest) lo hi)) old new
grow_rivers deal front taken rest cards left lo hi old new deep none first all grown =
    let P : List (List (List ℕ)) → Type 0 = λ l. CountsGrow deal l old new in
    let same : map (λ more. front ++ (taken ++ more) ∷ []) (slice_range (choose left rest) lo hi) ≡ map (λ card. (card ∷ []) ∷ []) (slice_range cards lo hi) =
    ap (λ n. map (λ more. front ++ (taken ++ more) ∷ []) (slice_range (choose n rest) lo hi)) deep
    ∙ ap (λ f. map (λ more. f ++ (taken ++ more) ∷ []) (slice_range (choose 1 rest) lo hi)) none
    ∙ ap (λ (t : List ℕ). map (λ more. (t ++ more) ∷ []) (slice_range (choose 1 rest) lo hi)) first
    ∙ ap (λ l. map (λ more. more ∷ []) (slice_range l lo hi)) (choose-one rest)
    ∙ ap (map (λ more. more ∷ [])) (range-map (λ x. x ∷ []) rest lo hi)
    ∙ map-map (λ more. more ∷ []) (λ x. x ∷ []) (slice_range rest lo hi)
    ∙ ap (λ l. map (λ card. (card ∷ []) ∷ []) (slice_range l lo hi)) (sym all) in
    subst P (sym same) grown

-- one card more
pub river_more : (deal : Showdown) (cards : List ℕ) (i card : ℕ) (a b c : List (List ℕ)) → i < length cards → card ≡ get_or cards i card → CountsGrow deal (map (λ card. (card ∷ []) ∷ []) (take i cards)) a b
    → CountsGrow deal (((card ∷ []) ∷ []) ∷ []) b c → CountsGrow deal (map (λ card. (card ∷ []) ∷ []) (take (i + 1) cards)) a c
river_more deal cards i card a b c inside is before here =
    let P : List (List (List ℕ)) → Type 0 = λ l. CountsGrow deal l a c in
    let same : map (λ card. (card ∷ []) ∷ []) (take (i + 1) cards) ≡ map (λ card. (card ∷ []) ∷ []) (take i cards) ++ ((card ∷ []) ∷ []) ∷ [] =
    map_take (λ card. (card ∷ []) ∷ []) cards i card inside ∙ ap (λ k. map (λ card. (card ∷ []) ∷ []) (take i cards) ++ ((k ∷ []) ∷ []) ∷ []) (sym is) in
    subst P (sym same) (grow_more deal (map (λ card. (card ∷ []) ∷ []) (take i cards)) (((card ∷ []) ∷ []) ∷ []) a b c before here)

-- the board of such a table lacks one card
pub lacks_one : (table : Table) (shape : Shape) (st : State) → are_rivers table shape ≡ true → slots_of shape ≡ slots st → board_lacks (slots st) ≡ 1
lacks_one table shape st rivers same =
    let one : (board_lacks (slots_of shape) == 1) ≡ true = (and_parts (has_board table.known.game) (board_lacks (slots_of shape) == 1) rivers).1 in
    let is : board_lacks (slots_of shape) ≡ 1 = grind (arith, one) in
    ap board_lacks (sym same) ∙ is

-- there is no card of the rank of none
pub no_rank : (spot : BoardSpot) (card : ℕ) → rank_of card ≡ 13 → HasMember (runouts_after (state_of spot.table.known)) ((card ∷ []) ∷ []) → ⊥
no_rank spot card none member = let deck = in_deck (state_of spot.table.known) card (scene_of spot (card ∷ []) member) in omega arith

-- one place more is written
pub few_set : (xs : List ℕ) (i v bound p : ℕ) → ((p : ℕ) → slice_index xs p < bound) → v < bound → i < length xs → slice_index (set xs i v) p < bound
few_set xs i v bound p few small inside = elim (cases_eq p i) [
  | inl e ↦ let here : slice_index (set xs i v) p ≡ v = ap (slice_index (set xs i v)) e ∙ get_or-set_same xs i v 0 inside in omega (arith, here)
  | inr ne ↦ let there : slice_index (set xs i v) p ≡ slice_index xs p = get_or-set_other xs i p v 0 ne in omega (arith, there, few p)
]

pub won_set : (deal : Showdown) (runout : List (List ℕ)) (highs lows : List ℕ) (pot i j high low p : ℕ) → i ≡ pot → j ≡ pot → pot < length highs → pot < length lows → (p < pot → IsWonBy deal p runout (slice_index highs p) (slice_index lows p))
    → IsWonBy deal pot runout high low → p < pot + 1 → IsWonBy deal p runout (slice_index (set highs i high) p) (slice_index (set lows j low) p)
won_set deal runout highs lows pot i j high low p a b h l was here lt = rw (a, b) (elim (cases_lt p pot) [
  | inl less ↦
      let ne : p ≡ pot → ⊥ = λ e. omega arith in
      record {
        high_set = get_or-set_other highs pot p high 0 ne ∙ (was less).high_set;
        low_set = get_or-set_other lows pot p low 0 ne ∙ (was less).low_set;
      }
  | inr ge ↦
      let same : pot ≡ p = omega arith in
      let P : ℕ → Type 0 = λ k. IsWonBy deal k runout (slice_index (set highs pot high) k) (slice_index (set lows pot low) k) in
      let there : P pot = record {
        high_set = get_or-set_same highs pot high 0 h ∙ here.high_set;
        low_set = get_or-set_same lows pot low 0 l ∙ here.low_set;
      } in
      subst P same there
])
