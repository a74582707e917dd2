-- First cards of a board, and counts of them with some pairs.
use Rattle.std.proofs.Common.{◌≡◌, ℕ, suc, ◌<◌, List, [], ◌∷◌, ◌++◌, length, take, sym, ap, ◌∙◌, arith, Some, get_or, subst}
use Rattle.std.specs.Prelude.{slice_get, slice_index}
use Rattle.std.proofs.lemmas.Option.{slice_get-get_or}
use Rattle.card_sets.specs.Cards.{union, with_card}
use Rattle.card_sets.specs.State.{State, state_of}
use Rattle.runout_ranges.proofs.CallerLemmas.{member_at}
use Rattle.board_ranks.specs.declared.pair.Pair.{Pair}
use Rattle.board_runouts.specs.Fronts.{AddPairs, AreRunoutsWith, HasRoom, IsFlushFor, IsFlushWith, IsRunoutWith, front_deal}
use Rattle.board_runouts.specs.Highs.{AreSuitedFor, IsBestFlush}
use Rattle.board_runouts.specs.KeptRows.{IsBestAt, IsRowFor}
use Rattle.board_runouts.specs.Pairs.{cards_of_pair}
use Rattle.board_runouts.specs.declared.flush.Flush.{Flush}
use Rattle.board_runouts.specs.declared.flush.Suited.{Suited}
use Rattle.board_runouts.specs.declared.front.Front.{Front}
use Rattle.board_runouts.specs.declared.row.Row.{Row}
use Rattle.board_runouts.proofs.BoardDealt.{IsScene, own_of, pair_inside, row_there, scene_of}
use Rattle.board_runouts.proofs.BoardRunouts.{set_with_pair}
use Rattle.board_runouts.proofs.PairCounts.{fits_next, pairs_next}

-- what stands at a place of a list
pub item_at : {X : Type 0} (xs : List X) (i : ℕ) (x : X) → i < length xs → x ≡ get_or xs i x → slice_get xs i ≡ Some x
item_at xs i x inside is = slice_get-get_or xs i x inside ∙ ap Some (sym is)

-- the row of a pot
pub row_of : (front : Front) (pot at : ℕ) (row : Row) → at ≡ pot → pot < front.spot.now.table.pots → row ≡ get_or front.rows.now at row → slice_get front.rows.now pot ≡ Some row
row_of front pot at row same inside is = let n = front.pots in ap (slice_get front.rows.now) (sym same) ∙ item_at front.rows.now at row (omega arith) is

pub row_at : (front : Front) (pot at : ℕ) (row : Row) → at ≡ pot → pot < front.spot.now.table.pots → row ≡ get_or front.rows.now at row → IsRowFor (front_deal front) pot front.taken row
row_at front pot at row same inside is = front.rows_are pot row (row_of front pot at row same inside is)

-- a runout with one of some pairs
pub runout_at : (front : Front) (pairs : List Pair) (i : ℕ) (pair : Pair) → AreRunoutsWith front pairs → slice_get pairs i ≡ Some pair → IsRunoutWith front pair
runout_at front pairs i pair all at = all pair (member_at pairs i pair at)

-- the ranks of its pair are a place of a row
pub scene_with : (front : Front) (pair : Pair) → IsRunoutWith front pair → IsScene (state_of front.spot.now.table.known) (front.taken ++ cards_of_pair pair)
scene_with front pair member = scene_of front.spot.now (front.taken ++ cards_of_pair pair) member

pub place_inside : (front : Front) (pair : Pair) (place : ℕ) → IsRunoutWith front pair → place ≡ pair.ranks → place < 169
place_inside front pair place member is = pair_inside (state_of front.spot.now.table.known) front.taken pair.low pair.high place (scene_with front pair member) (is ∙ pair.by_rank)

-- the full board that the two cards make
pub board_with : (front : Front) (pair : Pair) (one both board : List ℕ) → IsRunoutWith front pair → one ≡ with_card front.taken pair.low → both ≡ with_card one pair.high → board ≡ union (state_of front.spot.now.table.known).board both
    → board ≡ union (state_of front.spot.now.table.known).board (front.taken ++ cards_of_pair pair)
board_with front pair one both board member low high full =
    let st : State = state_of front.spot.now.table.known in
    full ∙ ap (union st.board) (set_with_pair st front.taken one both pair.low pair.high front.spot.now.alone member low high)

-- who is best with it, by the row of a pot
pub best_with : (front : Front) (pair : Pair) (pot place : ℕ) (row : Row) → IsRunoutWith front pair → IsRowFor (front_deal front) pot front.taken row → place ≡ pair.ranks → IsBestAt (front_deal front) pot ((front.taken ++ cards_of_pair pair) ∷ []) row place
best_with front pair pot place row member of_row ranks = row_there (front_deal front) pot front.taken pair.low pair.high place row (scene_with front pair member) of_row (ranks ∙ pair.by_rank)

-- what is asked of flushes with the cards of a suit after it
pub suited_for : (front : Front) (pair : Pair) (part : Suited) → IsRunoutWith front pair → IsFlushWith front pair part → AreSuitedFor (state_of front.spot.now.table.known) part.cards part.suit
suited_for front pair part member flush = record {
  dealt = front.spot.now.dealt;
  own = λ h l. own_of (state_of front.spot.now.table.known) (front.taken ++ cards_of_pair pair) h (scene_with front pair member) l;
  inside = flush.inside;
  five = flush.five;
  away = flush.away;
}

-- the best flush of a pot
pub best_at : (front : Front) (part : Suited) (flush : Flush) (pot at : ℕ) → at ≡ pot → pot < front.spot.now.table.pots → IsFlushFor front part flush → IsBestFlush (front_deal front) pot part.cards part.suit (slice_index flush.tops at) (slice_index flush.sets at)
best_at front part flush pot at same inside is =
    let n = front.spot.now.pots in
    let P : ℕ → Type 0 = λ k. IsBestFlush (front_deal front) pot part.cards part.suit (slice_index flush.tops k) (slice_index flush.sets k) in
    subst P (sym same) (is pot (omega arith))

-- one pair after another
pub room_next : (front : Front) (pairs : List Pair) (i : ℕ) (old mid : List (List ℕ)) → HasRoom front old (length pairs) → i < length pairs → AddPairs front (take i pairs) old mid → HasRoom front mid 1
room_next front pairs i old mid room l was = record {
  rows = (let a = room.rows in let b = was.rows in omega arith);
  fits = fits_next (front_deal front) front.taken pairs i old mid room.fits l was.counted;
}

pub add_next : (front : Front) (pairs : List Pair) (i next : ℕ) (pair : Pair) (old mid new : List (List ℕ)) → next ≡ suc i → slice_get pairs i ≡ Some pair → AddPairs front (take i pairs) old mid → AddPairs front (pair ∷ []) mid new → AddPairs front (take next pairs) old new
add_next front pairs i next pair old mid new n at was more = record {
  counted = pairs_next (front_deal front) front.taken pairs i next pair old mid new n at was.counted more.counted;
  rows = more.rows ∙ was.rows;
}
