-- Pairs of last cards that make nobody a flush, counted by their ranks.
use Rattle.std.proofs.Common.{◌≡◌, ℕ, suc, ◌+◌, ◌^◌, ◌<◌, ◌≤◌, ◌==◌, List, [], ◌∷◌, ◌++◌, length, map, refl, sym, ap, ◌∙◌, arith, Bool, true, cond, Some, subst, take}
use Rattle.std.specs.Prelude.{filter, slice_get, slice_index}
use Rattle.std.specs.List.{count_by, slice_range, sum_by}
use Rattle.std.proofs.lemmas.List.{length-map}
use Rattle.std.proofs.lemmas.List.Sums.{count_by-le-length, length-filter, sum_by-append}
use Rattle.std.proofs.lemmas.Option.{slice_get-get_or}
use Rattle.card_sets.specs.Cards.{suit_of}
use Rattle.card_sets.specs.Games.{has_side}
use Rattle.card_sets.specs.PlayerSets.{AreBelow}
use Rattle.card_sets.specs.State.{State, state_of}
use Rattle.card_sets.specs.declared.games.Side.{Side}
use Rattle.card_sets.specs.declared.games.Side.TheVariants.{High}
use Rattle.runout_ranges.specs.Runouts.{HasMember}
use Rattle.showdown_tally.specs.Deals.{deal_of}
use Rattle.showdown_tally.specs.Showdown.{Showdown, eligible_in}
use Rattle.showdown_tally.specs.SideCounts.{CountsFit, count_at}
use Rattle.showdown_tally.specs.Tallies.{runouts_after}
use Rattle.board_runouts.specs.Codes.{AreCodesFor, FieldsGrow, IsCodeOf}
use Rattle.board_runouts.specs.Fields.{code_of, ends_of, field, fields_at}
use Rattle.board_runouts.specs.KeptRows.{AreRowsOf, CellsGrow, HasNoFlush, IsRowFor, PairsGrow, pair_place, row_place}
use Rattle.board_runouts.specs.Pairs.{cards_of_pair}
use Rattle.board_runouts.specs.PlainRanks.{CodesGrow, HasCode, MainsGrow, RowsGrow, code_end}
use Rattle.board_ranks.specs.Sieves.{flush_pairs, is_flush, is_plain, plain_pairs, plain_ranks}
use Rattle.board_ranks.specs.Suits.{AreFivesWith, IsShortWith}
use Rattle.board_runouts.specs.declared.codes.Codes.{Codes}
use Rattle.board_ranks.specs.declared.pair.Pair.{Pair}
use Rattle.board_runouts.specs.declared.row.Row.{Row}
use Rattle.board_runouts.specs.declared.spot.BoardSpot.{BoardSpot}
use Rattle.board_runouts.proofs.HighWinners.{Keeps}
use Rattle.board_runouts.proofs.BoardDealt.{IsScene, pair_inside, scene_of, unflagged}
use Rattle.board_runouts.proofs.BoardRunouts.{pair_rises}
use Rattle.board_runouts.proofs.CodedPairs.{code_back, code_small, pair_code, take_range}
use Rattle.board_runouts.proofs.CodeSets.{ends_count}
use Rattle.runout_walk.proofs.CallerLemmas.{count_map, count_same}
use Rattle.board_runouts.proofs.PackedSums.{AreCoded, coded_of, fields_counted, sum_fits}
use Rattle.board_runouts.proofs.PairCounts.{count_few, row_pair, some_row}
use Rattle.board_ranks.proofs.CallerLemmas.{count_next, count_one, size_parts}
use Rattle.board_runouts.proofs.PassingMembers.{count_parts, filter_member, map_member}

-- with a pair for whose suits a table names none nobody has a flush
plain_pair : (spot : BoardSpot) (taken suits : List ℕ) (pair : Pair) → AreFivesWith spot.most taken suits → length suits ≡ 16 → HasMember (runouts_after (state_of spot.table.known)) ((taken ++ cards_of_pair pair) ∷ []) → is_plain suits pair ≡ true
    → HasNoFlush (state_of spot.table.known) ((taken ++ cards_of_pair pair) ∷ [])
plain_pair spot taken suits pair fives places member plain =
    let st : State = state_of spot.table.known in
    let set : List ℕ = taken ++ cards_of_pair pair in
    let scene : IsScene st set = scene_of spot set member in
    let rises = pair_rises st taken pair.low pair.high spot.alone member in
    let up : pair.low < pair.high = rises.0 in
    let top : pair.high < 52 = rises.1 in
    let inside : pair.suits < length suits = (let k = pair.by_suit in omega arith) in
    let big : 4 ≤ slice_index suits pair.suits = grind (arith, plain) in
    let short : IsShortWith spot.most taken (suit_of pair.low) (suit_of pair.high) = fives (suit_of pair.low) (suit_of pair.high) (slice_index suits pair.suits) (omega arith) (omega arith) (ap (slice_get suits) (sym pair.by_suit) ∙ slice_get-get_or suits pair.suits 0 inside) big in
    unflagged st taken spot.most pair.low pair.high scene spot.greatest short

-- pairs that make nobody a flush, each of which is a runout with the first cards
pub record ArePlain (spot : BoardSpot) (taken : List ℕ) (pairs : List Pair) : Type 0 where
  pub members : (pair : Pair) → HasMember pairs pair → HasMember (runouts_after (state_of spot.table.known)) ((taken ++ cards_of_pair pair) ∷ [])
  pub none : (pair : Pair) → HasMember pairs pair → HasNoFlush (state_of spot.table.known) ((taken ++ cards_of_pair pair) ∷ [])

pub plain_all : (spot : BoardSpot) (taken suits : List ℕ) (pairs : List Pair) → AreFivesWith spot.most taken suits → length suits ≡ 16 → ((pair : Pair) → HasMember pairs pair → HasMember (runouts_after (state_of spot.table.known)) ((taken ++ cards_of_pair pair) ∷ []))
    → ArePlain spot taken (plain_pairs suits pairs)
unfolding plain_pairs
plain_all spot taken suits pairs fives places all = record {
  members = λ pair m. all pair (filter_member (is_plain suits) pairs pair m).0;
  none = λ pair m. let both = filter_member (is_plain suits) pairs pair m in plain_pair spot taken suits pair fives places (all pair both.0) both.1;
}

-- their ranks are places of a row
pub plain_inside : (spot : BoardSpot) (taken : List ℕ) (pairs : List Pair) (all : List ℕ) → ArePlain spot taken pairs → all ≡ map (λ pair. pair.ranks) pairs → (ranks : ℕ) → HasMember all ranks → ranks < 169
plain_inside spot taken pairs all plain is ranks m =
    let M : List ℕ → Type 0 = λ l. HasMember l ranks in
    let from = map_member (λ pair. pair.ranks) pairs ranks (subst M is m) in
    let pair : Pair = from.0 in
    let scene : IsScene (state_of spot.table.known) (taken ++ cards_of_pair pair) = scene_of spot (taken ++ cards_of_pair pair) (plain.members pair from.1) in
    pair_inside (state_of spot.table.known) taken pair.low pair.high ranks scene (from.2 ∙ pair.by_rank)

-- a pair with a code is counted where it says
pub code_there : (deal : Showdown) (taken : List ℕ) (codes : Codes) (pair : Pair) → (code : ℕ) × IsCodeOf deal taken codes pair code
    → HasCode codes pair.ranks × ((pot : ℕ) (side : Side) → pot < length deal.pots → has_side side deal.state.game ≡ true → pair_place deal taken pot side pair ≡ code_end codes pot side pair.ranks)
code_there deal taken codes pair (code, is) =
    let back : code_of (slice_index codes.adds pair.ranks) ≡ code = ap code_of is.add_is ∙ code_back code is.inside in
    (is.add_is ∙ ap field (sym back), λ pot side p has. is.end_is pot side p has ∙ ap (slice_index (ends_of pot side codes.ends)) (sym back))

-- some numbers are counted at the places of the pairs whose ranks they are
pub plain_count : (deal : Showdown) (taken : List ℕ) (pairs : List Pair) (all : List ℕ) (pot place : ℕ) (side : Side) (end : ℕ → ℕ) → all ≡ map (λ pair. pair.ranks) pairs
    → ((pair : Pair) → HasMember pairs pair → pair_place deal taken pot side pair ≡ end pair.ranks) → count_by (λ ranks. end ranks == place) all ≡ count_by (λ q. pair_place deal taken pot side q == place) pairs
plain_count deal taken pairs all pot place side end is each =
    ap (count_by (λ ranks. end ranks == place)) is
    ∙ count_map (λ ranks. end ranks == place) (λ pair. pair.ranks) pairs
    ∙ sym (count_same (λ q. pair_place deal taken pot side q == place) (λ q. end q.ranks == place) pairs (λ q m. ap (λ n. n == place) (each q m)))

-- with both parts all pairs are counted
pub parts_grow : (deal : Showdown) (taken suits : List ℕ) (pairs : List Pair) (old mid new : List (List ℕ)) → PairsGrow deal taken (plain_pairs suits pairs) old mid → PairsGrow deal taken (flush_pairs suits pairs) mid new → PairsGrow deal taken pairs old new
unfolding plain_pairs flush_pairs
parts_grow deal taken suits pairs old mid new first second pot place side p has l =
    omega (arith, first pot place side p has l, second pot place side p has l, count_parts (is_plain suits) (λ q. pair_place deal taken pot side q == place) pairs)

-- and there is room for the second part
pub parts_size : (suits : List ℕ) (pairs : List Pair) → length (plain_ranks suits pairs) + length (flush_pairs suits pairs) ≡ length pairs
unfolding plain_pairs flush_pairs
parts_size suits pairs =
    omega (arith, length-map (filter (is_plain suits) pairs) (λ pair. pair.ranks), length-filter (is_plain suits) pairs, length-filter (is_flush suits) pairs, size_parts (is_plain suits) pairs)

pub plain_size : (suits : List ℕ) (pairs : List Pair) → length (plain_ranks suits pairs) ≡ length (plain_pairs suits pairs)
plain_size suits pairs = length-map (plain_pairs suits pairs) (λ pair. pair.ranks)

pub room_after : (deal : Showdown) (taken : List ℕ) (pairs : List Pair) (old new : List (List ℕ)) (most few : ℕ) → CountsFit deal old most → length pairs + few ≤ most → PairsGrow deal taken pairs old new → CountsFit deal new few
room_after deal taken pairs old new most few fits sizes grown pot place side p has l =
    omega (arith, fits pot place side p has l, grown pot place side p has l, count_by-le-length (λ q. pair_place deal taken pot side q == place) pairs)

pub flush_member : (suits : List ℕ) (pairs : List Pair) (pair : Pair) → HasMember (flush_pairs suits pairs) pair → HasMember pairs pair
unfolding flush_pairs
flush_member suits pairs pair m = (filter_member (is_flush suits) pairs pair m).0

-- ranks with codes are packed numbers
pub ranks_coded : (codes : Codes) (pot : ℕ) (side : Side) (all : List ℕ) → ((ranks : ℕ) → HasMember all ranks → HasCode codes ranks) → AreCoded (ends_of pot side codes.ends) (λ ranks. slice_index codes.adds ranks) (code_end codes pot side) all
ranks_coded codes pot side all each = coded_of (ends_of pot side codes.ends) (λ ranks. slice_index codes.adds ranks) (code_end codes pot side) all (λ ranks m. (code_of (slice_index codes.adds ranks), record { inside = code_small (slice_index codes.adds ranks); add_is = each ranks m; end_is = refl }))

ranks_any : (codes : Codes) (all : List ℕ) → ((ranks : ℕ) → HasMember all ranks → HasCode codes ranks) → AreCoded [] (λ ranks. slice_index codes.adds ranks) (λ ranks. slice_index [] (code_of (slice_index codes.adds ranks))) all
ranks_any codes all each = coded_of [] (λ ranks. slice_index codes.adds ranks) (λ ranks. slice_index [] (code_of (slice_index codes.adds ranks))) all (λ ranks m. (code_of (slice_index codes.adds ranks), record { inside = code_small (slice_index codes.adds ranks); add_is = each ranks m; end_is = refl }))

pub ranks_room : (codes : Codes) (all : List ℕ) → ((ranks : ℕ) → HasMember all ranks → HasCode codes ranks) → length all < 512 → sum_by (λ ranks. slice_index codes.adds ranks) all < 9223372036854775808
ranks_room codes all each few = sum_fits [] (λ ranks. slice_index codes.adds ranks) (λ ranks. slice_index [] (code_of (slice_index codes.adds ranks))) all (ranks_any codes all each) few

pub ranks_fields : (codes : Codes) (pot place : ℕ) (side : Side) (all : List ℕ) (sum : ℕ) → ((ranks : ℕ) → HasMember all ranks → HasCode codes ranks) → length all < 512 → length codes.ends ≡ 7 → sum ≡ sum_by (λ ranks. slice_index codes.adds ranks) all
    → fields_at (ends_of pot side codes.ends) sum place ≡ count_by (λ ranks. code_end codes pot side ranks == place) all
ranks_fields codes pot place side all sum each few seven is =
    fields_counted (ends_of pot side codes.ends) (λ ranks. slice_index codes.adds ranks) (code_end codes pot side) all sum place (ranks_coded codes pot side all each) few (ends_count pot side codes.ends ∙ seven) is

-- a piece whose sum is added, and the room for it
pub piece_fields : (deal : Showdown) (codes : Codes) (all : List ℕ) (sum : ℕ) (old new : List (List ℕ)) → ((ranks : ℕ) → HasMember all ranks → HasCode codes ranks) → length all < 512 → length codes.ends ≡ 7 → sum ≡ sum_by (λ ranks. slice_index codes.adds ranks) all
    → FieldsGrow deal codes sum old new → CodesGrow deal codes all old new
piece_fields deal codes all sum old new each few seven is grown pot place side p has l = omega (arith, grown pot place side p has l, ranks_fields codes pot place side all sum each few seven is)

pub piece_room : (deal : Showdown) (codes : Codes) (all : List ℕ) (sum : ℕ) (old : List (List ℕ)) → ((ranks : ℕ) → HasMember all ranks → HasCode codes ranks) → length all < 512 → length codes.ends ≡ 7 → sum ≡ sum_by (λ ranks. slice_index codes.adds ranks) all → CountsFit deal old (length all)
    → (pot place : ℕ) (side : Side) → pot < length deal.pots → has_side side deal.state.game ≡ true → place < 2048 → count_at old pot side place + fields_at (ends_of pot side codes.ends) sum place < 2 ^ 32
piece_room deal codes all sum old each few seven is fits pot place side p has l =
    omega (arith, fits pot place side p has l, ranks_fields codes pot place side all sum each few seven is, count_by-le-length (λ ranks. code_end codes pot side ranks == place) all)

-- one piece after another
pub codes_on : (deal : Showdown) (codes : Codes) (all : List ℕ) (at end : ℕ) (old mid new : List (List ℕ)) → at ≤ end → CodesGrow deal codes (take at all) old mid → CodesGrow deal codes (slice_range all at end) mid new → CodesGrow deal codes (take end all) old new
codes_on deal codes all at end old mid new l was more pot place side p has k =
    let test : ℕ → Bool = λ ranks. code_end codes pot side ranks == place in
    let e : count_by test (take end all) ≡ count_by test (take at all) + count_by test (slice_range all at end) = ap (count_by test) (take_range all at end l) ∙ sum_by-append (λ y. cond (test y) 1 0) (take at all) (slice_range all at end) in
    omega (arith, was pot place side p has k, more pot place side p has k, e)

pub codes_room : (deal : Showdown) (codes : Codes) (all : List ℕ) (at size : ℕ) (old mid : List (List ℕ)) → CountsFit deal old (length all) → at + size ≤ length all → CodesGrow deal codes (take at all) old mid → CountsFit deal mid size
codes_room deal codes all at size old mid fits l was pot place side p has k =
    omega (arith, fits pot place side p has k, was pot place side p has k, count_few (λ ranks. code_end codes pot side ranks == place) all at)

-- ranks are counted where the rows say
pub rows_next : (deal : Showdown) (rows : List Row) (all : List ℕ) (i next ranks : ℕ) (old mid new : List (List ℕ)) → next ≡ suc i → slice_get all i ≡ Some ranks → RowsGrow deal rows (take i all) old mid
    → ((pot number : ℕ) (side : Side) (row : Row) → pot < length deal.pots → has_side side deal.state.game ≡ true → slice_get rows pot ≡ Some row → count_at new pot side number ≡ count_at mid pot side number + cond (row_place row side ranks == number) 1 0) → RowsGrow deal rows (take next all) old new
rows_next deal rows all i next ranks old mid new n at was more pot place side row p has found l =
    let test : ℕ → Bool = λ r. row_place row side r == place in
    let e : count_by test (take next all) ≡ count_by test (take i all) + count_by test (ranks ∷ []) = ap (λ k. count_by test (take k all)) n ∙ count_next test all i ranks at in
    omega (arith, was pot place side row p has found l, more pot place side row p has found, e, count_one test ranks)

pub rows_room : (deal : Showdown) (rows : List Row) (all : List ℕ) (i : ℕ) (old mid : List (List ℕ)) → length rows ≡ length deal.pots → CountsFit deal old (length all) → i < length all → RowsGrow deal rows (take i all) old mid → CountsFit deal mid 1
rows_room deal rows all i old mid each fits l was pot place side p has k =
    let row = some_row rows pot (omega arith) in
    omega (arith, fits pot place side p has k, was pot place side row.0 p has row.1 k, count_few (λ r. row_place row.0 side r == place) all i)

-- pairs that make nobody a flush have codes, and are counted where these say
abbrev pub AllBelow : Showdown → Type 0
AllBelow deal = (pot : ℕ) → pot < length deal.pots → AreBelow (length deal.state.hands) (eligible_in deal pot)

plain_code : (spot : BoardSpot) (taken : List ℕ) (codes : Codes) (pairs : List Pair) (pair : Pair) → ArePlain spot taken pairs → Keeps → AllBelow (deal_of spot.table) → AreCodesFor (deal_of spot.table) taken codes → codes.enough ≡ true → HasMember pairs pair
    → HasCode codes pair.ranks × ((pot : ℕ) (side : Side) → pot < length (deal_of spot.table).pots → has_side side spot.table.known.game ≡ true → pair_place (deal_of spot.table) taken pot side pair ≡ code_end codes pot side pair.ranks)
plain_code spot taken codes pairs pair plain keeps below are enough m =
    let scene : IsScene (state_of spot.table.known) (taken ++ cards_of_pair pair) = scene_of spot (taken ++ cards_of_pair pair) (plain.members pair m) in
    code_there (deal_of spot.table) taken codes pair (pair_code (deal_of spot.table) taken codes pair keeps scene below are enough (plain.none pair m))

pub plain_coded : (spot : BoardSpot) (taken : List ℕ) (codes : Codes) (pairs : List Pair) (all : List ℕ) → ArePlain spot taken pairs → all ≡ map (λ pair. pair.ranks) pairs → Keeps → AllBelow (deal_of spot.table) → AreCodesFor (deal_of spot.table) taken codes → codes.enough ≡ true
    → (ranks : ℕ) → HasMember all ranks → HasCode codes ranks
plain_coded spot taken codes pairs all plain is keeps below are enough ranks m =
    let M : List ℕ → Type 0 = λ l. HasMember l ranks in
    let from = map_member (λ pair. pair.ranks) pairs ranks (subst M is m) in
    subst (HasCode codes) (sym from.2) (plain_code spot taken codes pairs from.0 plain keeps below are enough from.1).0

pub plain_codes : (spot : BoardSpot) (taken : List ℕ) (codes : Codes) (pairs : List Pair) (all : List ℕ) (old new : List (List ℕ)) → ArePlain spot taken pairs → all ≡ map (λ pair. pair.ranks) pairs → Keeps → AllBelow (deal_of spot.table) → AreCodesFor (deal_of spot.table) taken codes → codes.enough ≡ true
    → CodesGrow (deal_of spot.table) codes all old new → PairsGrow (deal_of spot.table) taken pairs old new
plain_codes spot taken codes pairs all old new plain is keeps below are enough grown pot place side p has l =
    grown pot place side p has l
    ∙ ap (λ n. count_at old pot side place + n) (plain_count (deal_of spot.table) taken pairs all pot place side (code_end codes pot side) is (λ pair m. (plain_code spot taken codes pairs pair plain keeps below are enough m).1 pot side p has))

-- or where the rows say
plain_row : (spot : BoardSpot) (taken : List ℕ) (pairs : List Pair) (pot : ℕ) (side : Side) (row : Row) (pair : Pair) → ArePlain spot taken pairs → Keeps → AreBelow (length (state_of spot.table.known).hands) (eligible_in (deal_of spot.table) pot) → IsRowFor (deal_of spot.table) pot taken row → HasMember pairs pair
    → pair_place (deal_of spot.table) taken pot side pair ≡ row_place row side pair.ranks
plain_row spot taken pairs pot side row pair plain keeps below of_row m =
    let scene : IsScene (state_of spot.table.known) (taken ++ cards_of_pair pair) = scene_of spot (taken ++ cards_of_pair pair) (plain.members pair m) in
    sym (row_pair (deal_of spot.table) pot taken pair pair.ranks row side keeps scene below of_row pair.by_rank (plain.none pair m))

pub plain_rows : (spot : BoardSpot) (taken : List ℕ) (rows : List Row) (pairs : List Pair) (all : List ℕ) (old new : List (List ℕ)) → ArePlain spot taken pairs → all ≡ map (λ pair. pair.ranks) pairs → Keeps → AllBelow (deal_of spot.table) → AreRowsOf (deal_of spot.table) taken rows → length rows ≡ spot.table.pots
    → RowsGrow (deal_of spot.table) rows all old new → PairsGrow (deal_of spot.table) taken pairs old new
plain_rows spot taken rows pairs all old new plain is keeps below of_rows each grown pot place side p has l =
    let n = spot.pots in
    let row = some_row rows pot (omega arith) in
    grown pot place side row.0 p has row.1 l
    ∙ ap (λ n. count_at old pot side place + n) (plain_count (deal_of spot.table) taken pairs all pot place side (row_place row.0 side) is (λ pair m. plain_row spot taken pairs pot side row.0 pair plain keeps (below pot p) (of_rows pot row.0 row.1) m))

pub plain_mains : (spot : BoardSpot) (taken : List ℕ) (row : Row) (pairs : List Pair) (all : List ℕ) (old new : List ℕ) → ArePlain spot taken pairs → all ≡ map (λ pair. pair.ranks) pairs → Keeps → AreBelow (length (state_of spot.table.known).hands) (eligible_in (deal_of spot.table) 0) → IsRowFor (deal_of spot.table) 0 taken row
    → MainsGrow row all old new → CellsGrow (deal_of spot.table) taken 0 High pairs old new
plain_mains spot taken row pairs all old new plain is keeps below of_row grown place l =
    grown place l
    ∙ ap (λ n. slice_index old place + n) (plain_count (deal_of spot.table) taken pairs all 0 place High (row_place row High) is (λ pair m. plain_row spot taken pairs 0 High row pair plain keeps below of_row m))
