-- What a leaf of boards is given.
use Rattle.std.proofs.Common.{◌≡◌, ℕ, suc, ◌*◌, ◌<◌, ◌≤◌, List, [], ◌∷◌, ◌++◌, length, map, refl, sym, ap, ◌∙◌, arith, subst}
use Rattle.std.specs.List.{slice_range}
use Rattle.card_sets.specs.Choose.{choose}
use Rattle.card_sets.specs.Games.{own_size}
use Rattle.card_sets.specs.State.{State, state_of}
use Rattle.runout_ranges.specs.Runouts.{HasMember}
use Rattle.runout_ranges.specs.Slots.{slots}
use Rattle.showdown_tally.specs.Deals.{deal_of}
use Rattle.showdown_tally.specs.SideCounts.{CountsFit, CountsGrow}
use Rattle.showdown_tally.specs.Tallies.{runouts_after}
use Rattle.showdown_tally.specs.declared.table.Table.{Table}
use Rattle.runout_ranges.proofs.CallerLemmas.{as_many}
use Rattle.showdown_tally.proofs.CallerLemmas.{hand_of}
use Rattle.board_runouts.specs.Boards.{AreFirst, IsBoardAlone}
use Rattle.runout_walk.specs.Listing.{IsEndOf, left_after}
use Rattle.board_ranks.specs.declared.pair.Pair.{Pair}
use Rattle.board_runouts.specs.Fronts.{AddPairs, AreRunoutsWith, HasRoom, HoldsFlushes}
use Rattle.board_runouts.specs.KeptFlushes.{AreFlushes}
use Rattle.board_runouts.specs.KeptRows.{PairsGrow}
use Rattle.board_runouts.specs.Pairs.{cards_of_pair}
use Rattle.board_runouts.specs.declared.flushes.Flushes.{Flushes}
use Rattle.board_runouts.specs.declared.front.Front.{Front}
use Rattle.board_runouts.specs.declared.spot.BoardSpot.{BoardSpot}
use Rattle.board_runouts.proofs.BoardDealt.{IsScene, first_cards, own_of, scene_of}
use Rattle.board_runouts.proofs.BoardRunouts.{stretch-member}
use Rattle.board_runouts.proofs.PairCounts.{grow_of}
use Rattle.runout_walk.proofs.CallerLemmas.{some_member}

-- no slot stands before the board's
pub front_none : (st : State) (front : List (List ℕ)) → IsBoardAlone st → suc (length front) ≡ length (slots st) → front ≡ []
front_none st [] alone last = refl
front_none st (set ∷ front) alone last = absurd (let one : length (slots st) ≡ 1 = ap length alone in omega arith)

-- first cards, which two more make to runouts
pub record IsLeafOf (spot : BoardSpot) (front : List (List ℕ)) (taken rest : List ℕ) : Type 0 where
  pub none : front ≡ []
  pub members : (more : List ℕ) → HasMember (choose 2 rest) more → HasMember (runouts_after (state_of spot.table.known)) ((taken ++ more) ∷ [])
  pub first : AreFirst (state_of spot.table.known) taken
  pub own : (h : ℕ) → h < length (state_of spot.table.known).hands → length (hand_of (state_of spot.table.known) h) ≡ own_size spot.table.known.game

pub leaf_of : (spot : BoardSpot) (table : Table) (front : List (List ℕ)) (taken rest : List ℕ) (left lo hi : ℕ) → spot.table ≡ table → suc (length front) ≡ length (slots (state_of table.known)) → left ≡ 2
    → ((more : List ℕ) → HasMember (choose left rest) more → HasMember (runouts_after (state_of table.known)) (front ++ (taken ++ more) ∷ [])) → lo < hi → hi ≤ length (choose left rest) → IsLeafOf spot front taken rest
leaf_of spot table front taken rest left lo hi same last two all h k =
    let S : Table → Type 0 = λ t. suc (length front) ≡ length (slots (state_of t.known)) in
    let none : front ≡ [] = front_none (state_of spot.table.known) front spot.alone (subst S (sym same) last) in
    let M : Table → Type 0 = λ t. (more : List ℕ) → HasMember (choose left rest) more → HasMember (runouts_after (state_of t.known)) (front ++ (taken ++ more) ∷ []) in
    let L : ℕ → Type 0 = λ n. (more : List ℕ) → HasMember (choose n rest) more → HasMember (runouts_after (state_of spot.table.known)) (front ++ (taken ++ more) ∷ []) in
    let F : List (List ℕ) → Type 0 = λ f. (more : List ℕ) → HasMember (choose 2 rest) more → HasMember (runouts_after (state_of spot.table.known)) (f ++ (taken ++ more) ∷ []) in
    let members : F [] = subst F none (subst L two (subst M (sym same) all)) in
    let size : length (choose left rest) ≡ length (choose 2 rest) = ap (λ n. length (choose n rest)) two in
    let one = some_member (choose 2 rest) (omega arith) in
    let scene : IsScene (state_of spot.table.known) (taken ++ one.0) = scene_of spot (taken ++ one.0) (members one.0 one.1) in
    record {
      none = none;
      members = members;
      first = first_cards (state_of spot.table.known) taken one.0 scene (sym (as_many 2 rest one.0 one.1));
      own = λ h l. own_of (state_of spot.table.known) (taken ++ one.0) h scene l;
    }

-- the rest is the end of all cards that may come
pub end_of_all : (front : List (List ℕ)) (rest cards all : List ℕ) → front ≡ [] → cards ≡ all → IsEndOf rest (left_after all front) → IsEndOf rest cards
end_of_all front rest cards all none same end =
    let F : List (List ℕ) → Type 0 = λ f. IsEndOf rest (left_after all f) in
    subst (IsEndOf rest) (sym same) (subst F none end)

-- what a leaf is to count, as first cards with a pair
pub leaf_grow : (spot : BoardSpot) (table : Table) (front : List (List ℕ)) (taken rest : List ℕ) (left lo hi : ℕ) (old new : List (List ℕ)) → spot.table ≡ table → front ≡ [] → left ≡ 2 → CountsGrow (deal_of spot.table) (map (λ more. (taken ++ more) ∷ []) (slice_range (choose 2 rest) lo hi)) old new
    → CountsGrow (deal_of table) (map (λ more. front ++ (taken ++ more) ∷ []) (slice_range (choose left rest) lo hi)) old new
leaf_grow spot table front taken rest left lo hi old new same none two grown =
    let F : List (List ℕ) → Type 0 = λ f. CountsGrow (deal_of spot.table) (map (λ more. f ++ (taken ++ more) ∷ []) (slice_range (choose 2 rest) lo hi)) old new in
    let T : Table → Type 0 = λ t. CountsGrow (deal_of t) (map (λ more. front ++ (taken ++ more) ∷ []) (slice_range (choose 2 rest) lo hi)) old new in
    let L : ℕ → Type 0 = λ n. CountsGrow (deal_of table) (map (λ more. front ++ (taken ++ more) ∷ []) (slice_range (choose n rest) lo hi)) old new in
    subst L (sym two) (subst T same (subst F (sym none) grown))

-- a front of these first cards, with the pairs from one place of a listing to another
pub front_members : (front : Front) (spot : BoardSpot) (taken rest : List ℕ) (some : List Pair) (lo hi : ℕ) → front.spot.now ≡ spot → front.taken ≡ taken → map cards_of_pair some ≡ slice_range (choose 2 rest) lo hi
    → ((more : List ℕ) → HasMember (choose 2 rest) more → HasMember (runouts_after (state_of spot.table.known)) ((taken ++ more) ∷ [])) → AreRunoutsWith front some
front_members front spot taken rest some lo hi s t is all pair m =
    let S : BoardSpot → Type 0 = λ it. HasMember (runouts_after (state_of it.table.known)) ((front.taken ++ cards_of_pair pair) ∷ []) in
    let T : List ℕ → Type 0 = λ cards. HasMember (runouts_after (state_of spot.table.known)) ((cards ++ cards_of_pair pair) ∷ []) in
    subst S (sym s) (subst T (sym t) (all (cards_of_pair pair) (stretch-member some rest lo hi pair is m)))

pub front_room : (front : Front) (spot : BoardSpot) (table : Table) (counts : List (List ℕ)) (some : List Pair) (more : ℕ) → front.spot.now ≡ spot → spot.table ≡ table → length some ≡ more → 2 * length (deal_of table).pots ≤ length counts → CountsFit (deal_of table) counts more
    → HasRoom front counts (length some)
front_room front spot table counts some more s same size rows fits =
    let R : Table → Type 0 = λ it. 2 * length (deal_of it).pots ≤ length counts in
    let F : Table → Type 0 = λ it. CountsFit (deal_of it) counts (length some) in
    let Q : ℕ → Type 0 = λ n. CountsFit (deal_of table) counts n in
    let n = front.spot.now.pots in
    let is : front.spot.now.table ≡ table = ap (λ it. it.table) s ∙ same in
    record {
      rows = (let r : 2 * length (deal_of front.spot.now.table).pots ≤ length counts = subst R (sym is) rows in omega arith);
      fits = subst F (sym is) (subst Q (sym size) fits);
    }

pub front_flushes : (front : Front) (spot : BoardSpot) (flushes : Flushes) → front.spot.now ≡ spot → AreFlushes (deal_of spot.table) flushes → HoldsFlushes front flushes
front_flushes front spot flushes s held =
    let S : BoardSpot → Type 0 = λ it. AreFlushes (deal_of it.table) flushes in
    subst S (sym s) held

pub flushes_back : (front : Front) (spot : BoardSpot) (flushes : Flushes) → front.spot.now ≡ spot → HoldsFlushes front flushes → AreFlushes (deal_of spot.table) flushes
flushes_back front spot flushes s held =
    let S : BoardSpot → Type 0 = λ it. AreFlushes (deal_of it.table) flushes in
    subst S s held

pub front_grow : (front : Front) (spot : BoardSpot) (taken rest : List ℕ) (some : List Pair) (lo hi : ℕ) (old new : List (List ℕ)) → front.spot.now ≡ spot → front.taken ≡ taken → map cards_of_pair some ≡ slice_range (choose 2 rest) lo hi → AddPairs front some old new
    → CountsGrow (deal_of spot.table) (map (λ more. (taken ++ more) ∷ []) (slice_range (choose 2 rest) lo hi)) old new
front_grow front spot taken rest some lo hi old new s t is more =
    let S : BoardSpot → Type 0 = λ it. PairsGrow (deal_of it.table) front.taken some old new in
    let T : List ℕ → Type 0 = λ cards. PairsGrow (deal_of spot.table) cards some old new in
    grow_of (deal_of spot.table) [] taken rest lo hi some old new refl is (subst T t (subst S s more.counted))
