-- Counts of first cards with some pairs.
use Rattle.std.proofs.Common.{◌≡◌, ℕ, zero, suc, ◌+◌, ◌*◌, ◌^◌, ◌<◌, ◌≤◌, ◌==◌, List, [], ◌∷◌, ◌++◌, length, map, take, refl, sym, ap, ◌∙◌, arith, Bool, true, false, cond, Some, inl, inr, subst}
use Rattle.std.specs.Prelude.{slice_get, slice_index_or}
use Rattle.std.specs.List.{count_by, slice_range}
use Rattle.std.proofs.lemmas.Bool.{cases_eq}
use Rattle.std.proofs.lemmas.List.{length-take}
use Rattle.std.proofs.lemmas.List.Sums.{count_by-le-length}
use mathlib.Core.Bool.{true≢false}
use Rattle.card_sets.proofs.CallerLemmas.{board_games}
use Rattle.card_sets.specs.Choose.{choose}
use Rattle.card_sets.specs.Games.{has_board, has_side}
use Rattle.card_sets.specs.declared.games.Game.{Game}
use Rattle.card_sets.specs.declared.games.Side.{Side}
use Rattle.card_sets.specs.declared.games.Side.TheVariants.{High, Low}
use Rattle.showdown_tally.specs.Showdown.{Showdown}
use Rattle.showdown_tally.specs.SideCounts.{CountsFit, CountsGrow, count_at, count_place}
use Rattle.board_runouts.specs.Fields.{end_of}
use Rattle.board_runouts.specs.KeptRows.{CellsGrow, HasNoFlush, IsRowFor, PairsGrow, pair_place, row_place, so_many}
use Rattle.board_runouts.specs.Pairs.{cards_of_pair}
use Rattle.card_sets.specs.Cards.{rank_of}
use Rattle.card_sets.specs.PlayerSets.{AreBelow}
use Rattle.showdown_tally.specs.Showdown.{eligible_in}
use Rattle.board_ranks.specs.declared.pair.Pair.{Pair}
use Rattle.board_runouts.specs.declared.row.Row.{Row}
use Rattle.board_runouts.proofs.HighWinners.{Keeps}
use Rattle.board_runouts.proofs.BoardDealt.{IsScene, plain_main, row_there}
use Rattle.runout_walk.proofs.CallerLemmas.{count_map}
use Rattle.board_ranks.proofs.CallerLemmas.{count_next, count_one}

-- so many from the front pass at the most
pub count_few : {X : Type 0} (test : X → Bool) (xs : List X) (i : ℕ) → count_by test (take i xs) ≤ i
count_few test xs i = omega (arith, count_by-le-length test (take i xs), length-take i xs)

-- the pots below one are counted, and the others aren't yet
pub record IsCounted (deal : Showdown) (taken : List ℕ) (pair : Pair) (pots : ℕ) (old now : List (List ℕ)) : Type 0 where
  pub done : (p place : ℕ) (side : Side) → p < pots → has_side side deal.state.game ≡ true → count_at now p side place ≡ count_at old p side place + count_by (λ q. pair_place deal taken p side q == place) (pair ∷ [])
  pub later : (p place : ℕ) (side : Side) → pots ≤ p → has_side side deal.state.game ≡ true → count_at now p side place ≡ count_at old p side place

more_other : (times pot main low p place : ℕ) (side : Side) → (p ≡ pot → ⊥) → so_many times pot main low p side place ≡ 0
more_other times pot main low p place High ne = let f : (p == pot) ≡ false = grind arith in rw f refl
more_other times pot main low p place Low ne = let f : (p == pot) ≡ false = grind arith in rw f refl

more_high : (times pot main low place : ℕ) → so_many times pot main low pot High place ≡ cond (main == place) times 0
more_high times pot main low place = let t : (pot == pot) ≡ true = grind arith in rw t refl

more_low : (times pot main low place : ℕ) → so_many times pot main low pot Low place ≡ cond (low == place) times 0
more_low times pot main low place = let t : (pot == pot) ≡ true = grind arith in rw t refl

-- what a pot adds, on either side
abbrev pub AddsPot : Showdown → ℕ → ℕ → ℕ → ℕ → List (List ℕ) → List (List ℕ) → Type 0
AddsPot deal times pot main low mid new = (p place : ℕ) (side : Side) → has_side side deal.state.game ≡ true → count_at new p side place ≡ count_at mid p side place + so_many times pot main low p side place

pub adds_pot : (deal : Showdown) (times pot main low : ℕ) (mid new : List (List ℕ)) → ((p k : ℕ) → count_at new p High k ≡ count_at mid p High k + so_many times pot main low p High k)
    → ((p k : ℕ) → has_side Low deal.state.game ≡ true → count_at new p Low k ≡ count_at mid p Low k + so_many times pot main low p Low k) → AddsPot deal times pot main low mid new
adds_pot deal times pot main low mid new high lows p place High has = high p place
adds_pot deal times pot main low mid new high lows p place Low has = lows p place has

here_is : (deal : Showdown) (taken : List ℕ) (pair : Pair) (pot main low place : ℕ) (side : Side) → main ≡ pair_place deal taken pot High pair → low ≡ pair_place deal taken pot Low pair
    → so_many 1 pot main low pot side place ≡ count_by (λ q. pair_place deal taken pot side q == place) (pair ∷ [])
here_is deal taken pair pot main low place High m l = more_high 1 pot main low place ∙ ap (λ n. cond (n == place) 1 0) m ∙ sym (count_one (λ q. pair_place deal taken pot High q == place) pair)
here_is deal taken pair pot main low place Low m l = more_low 1 pot main low place ∙ ap (λ n. cond (n == place) 1 0) l ∙ sym (count_one (λ q. pair_place deal taken pot Low q == place) pair)

-- one pot more is counted
pub count_pot : (deal : Showdown) (taken : List ℕ) (pair : Pair) (pot next main low : ℕ) (old mid new : List (List ℕ)) → next ≡ suc pot → main ≡ pair_place deal taken pot High pair → low ≡ pair_place deal taken pot Low pair
    → AddsPot deal 1 pot main low mid new → IsCounted deal taken pair pot old mid → IsCounted deal taken pair next old new
count_pot deal taken pair pot next main low old mid new n m l adds was = record {
  done = λ p place side lt has. elim (cases_eq p pot) [
    | inl same ↦
        let P : ℕ → Type 0 = λ x. count_at new x side place ≡ count_at old x side place + count_by (λ q. pair_place deal taken x side q == place) (pair ∷ []) in
        let there : P pot = omega (arith, adds pot place side has, was.later pot place side (omega arith) has, here_is deal taken pair pot main low place side m l) in
        subst P (sym same) there
    | inr ne ↦ let less : p < pot = omega arith in omega (arith, adds p place side has, was.done p place side less has, more_other 1 pot main low p place side ne)
  ];
  later = λ p place side ge has. let ne : p ≡ pot → ⊥ = λ e. omega arith in omega (arith, adds p place side has, was.later p place side (omega arith) has, more_other 1 pot main low p place side ne);
}

-- a game with a board is played for the high
pub board_high : (game : Game) → has_board game ≡ true → has_side High game ≡ true
board_high = board_games (λ game. has_side High game ≡ true) refl refl refl

-- there is room for it
pub room_for : (deal : Showdown) (taken : List ℕ) (pair : Pair) (pot place : ℕ) (side : Side) (old mid : List (List ℕ)) → CountsFit deal old 1 → pot < length deal.pots → has_side side deal.state.game ≡ true → place < 2048 → IsCounted deal taken pair pot old mid → count_at mid pot side place + 1 < 2 ^ 32
room_for deal taken pair pot place side old mid fits p has l was = let f = fits pot place side p has l in omega (arith, was.later pot place side (omega arith) has)

-- the same of runouts at a place of the rows
pub record IsPut (deal : Showdown) (rows : List Row) (at times pots : ℕ) (old now : List (List ℕ)) : Type 0 where
  pub done : (p number : ℕ) (side : Side) (row : Row) → p < pots → has_side side deal.state.game ≡ true → slice_get rows p ≡ Some row → count_at now p side number ≡ count_at old p side number + cond (row_place row side at == number) times 0
  pub later : (p number : ℕ) (side : Side) → pots ≤ p → has_side side deal.state.game ≡ true → count_at now p side number ≡ count_at old p side number

ends_there : (row : Row) (at times pot number : ℕ) (side : Side) → so_many times pot (row_place row High at) (row_place row Low at) pot side number ≡ cond (row_place row side at == number) times 0
ends_there row at times pot number High = more_high times pot (row_place row High at) (row_place row Low at) number
ends_there row at times pot number Low = more_low times pot (row_place row High at) (row_place row Low at) number

row_same : (a b : Row) → Some a ≡ Some b → a ≡ b
row_same a b e = cc

pub put_pot : (deal : Showdown) (rows : List Row) (at times pot next : ℕ) (row : Row) (old mid new : List (List ℕ)) → next ≡ suc pot → slice_get rows pot ≡ Some row
    → AddsPot deal times pot (row_place row High at) (row_place row Low at) mid new → IsPut deal rows at times pot old mid → IsPut deal rows at times next old new
put_pot deal rows at times pot next row old mid new n here adds was = record {
  done = λ p number side other lt has found. elim (cases_eq p pot) [
    | inl same ↦
        let it : row ≡ other = row_same row other (sym here ∙ ap (slice_get rows) (sym same) ∙ found) in
        let P : ℕ → Type 0 = λ x. count_at new x side number ≡ count_at old x side number + cond (row_place other side at == number) times 0 in
        let W : Row → Type 0 = λ r. so_many times pot (row_place row High at) (row_place row Low at) pot side number ≡ cond (row_place r side at == number) times 0 in
        let there : P pot = omega (arith, adds pot number side has, was.later pot number side (omega arith) has, subst W it (ends_there row at times pot number side)) in
        subst P (sym same) there
    | inr ne ↦ let less : p < pot = omega arith in omega (arith, adds p number side has, was.done p number side other less has found, more_other times pot (row_place row High at) (row_place row Low at) p number side ne)
  ];
  later = λ p number side ge has. let ne : p ≡ pot → ⊥ = λ e. omega arith in omega (arith, adds p number side has, was.later p number side (omega arith) has, more_other times pot (row_place row High at) (row_place row Low at) p number side ne);
}

pub room_there : (deal : Showdown) (rows : List Row) (at pot : ℕ) (side : Side) (row : Row) (old mid : List (List ℕ)) → CountsFit deal old 1 → pot < length deal.pots → has_side side deal.state.game ≡ true → row_place row side at < 2048
    → IsPut deal rows at 1 pot old mid → count_at mid pot side (row_place row side at) + 1 < 2 ^ 32
room_there deal rows at pot side row old mid fits p has l was =
    let f = fits pot (row_place row side at) side p has l in
    omega (arith, f, was.later pot (row_place row side at) side (omega arith) has)

-- the same of an outcome
pub record IsPutOut (deal : Showdown) (outcome : List ℕ) (times pots : ℕ) (old now : List (List ℕ)) : Type 0 where
  pub done : (p number : ℕ) (side : Side) → p < pots → has_side side deal.state.game ≡ true → count_at now p side number ≡ count_at old p side number + cond (end_of p side outcome == number) times 0
  pub later : (p number : ℕ) (side : Side) → pots ≤ p → has_side side deal.state.game ≡ true → count_at now p side number ≡ count_at old p side number

ends_here : (outcome : List ℕ) (times pot main low number : ℕ) (side : Side) → main ≡ end_of pot High outcome → low ≡ end_of pot Low outcome → so_many times pot main low pot side number ≡ cond (end_of pot side outcome == number) times 0
ends_here outcome times pot main low number High m l = more_high times pot main low number ∙ ap (λ n. cond (n == number) times 0) m
ends_here outcome times pot main low number Low m l = more_low times pot main low number ∙ ap (λ n. cond (n == number) times 0) l

pub put_end : (deal : Showdown) (outcome : List ℕ) (times pot next main low : ℕ) (old mid new : List (List ℕ)) → next ≡ suc pot → main ≡ end_of pot High outcome → low ≡ end_of pot Low outcome
    → AddsPot deal times pot main low mid new → IsPutOut deal outcome times pot old mid → IsPutOut deal outcome times next old new
put_end deal outcome times pot next main low old mid new n m lo adds was = record {
  done = λ p number side lt has. elim (cases_eq p pot) [
    | inl same ↦
        let P : ℕ → Type 0 = λ x. count_at new x side number ≡ count_at old x side number + cond (end_of x side outcome == number) times 0 in
        let there : P pot = omega (arith, adds pot number side has, was.later pot number side (omega arith) has, ends_here outcome times pot main low number side m lo) in
        subst P (sym same) there
    | inr ne ↦ let less : p < pot = omega arith in omega (arith, adds p number side has, was.done p number side less has, more_other times pot main low p number side ne)
  ];
  later = λ p number side ge has. let ne : p ≡ pot → ⊥ = λ e. omega arith in omega (arith, adds p number side has, was.later p number side (omega arith) has, more_other times pot main low p number side ne);
}

pub room_out : (deal : Showdown) (outcome : List ℕ) (times pot at : ℕ) (side : Side) (old mid : List (List ℕ)) → ((p place : ℕ) (s : Side) → p < length deal.pots → has_side s deal.state.game ≡ true → place < 2048 → count_at old p s place + cond (end_of p s outcome == place) times 0 < 2 ^ 32)
    → pot < length deal.pots → has_side side deal.state.game ≡ true → at ≡ end_of pot side outcome → at < 2048 → IsPutOut deal outcome times pot old mid → count_at mid pot side at + times < 2 ^ 32
room_out deal outcome times pot at side old mid fits p has is l was =
    let t : (end_of pot side outcome == at) ≡ true = grind (arith, is) in
    let all : cond (end_of pot side outcome == at) times 0 ≡ times = ap (λ b. cond b times 0) t in
    omega (arith, fits pot at side p has l, was.later pot at side (omega arith) has, all)

-- a pair that makes nobody a flush is counted where the rows say
pub row_pair : (deal : Showdown) (pot : ℕ) (taken : List ℕ) (pair : Pair) (place : ℕ) (row : Row) (side : Side) → Keeps → IsScene deal.state (taken ++ cards_of_pair pair) → AreBelow (length deal.state.hands) (eligible_in deal pot) → IsRowFor deal pot taken row → place ≡ 13 * rank_of pair.low + rank_of pair.high
    → HasNoFlush deal.state ((taken ++ cards_of_pair pair) ∷ []) → row_place row side place ≡ pair_place deal taken pot side pair
row_pair deal pot taken pair place row High keeps scene below of_row at plain = plain_main deal pot (taken ++ cards_of_pair pair) _ _ _ keeps scene below (row_there deal pot taken pair.low pair.high place row scene of_row at) plain
row_pair deal pot taken pair place row Low keeps scene below of_row at plain = (row_there deal pot taken pair.low pair.high place row scene of_row at).low_set

-- there is a row
pub some_row : (rows : List Row) (i : ℕ) → i < length rows → (row : Row) × (slice_get rows i ≡ Some row)
some_row [] i l = absurd (omega arith)
some_row (row ∷ rows) zero l = (row, refl)
some_row (row ∷ rows) (suc i) l = some_row rows i (omega arith)

pub only_pot : (deal : Showdown) (taken : List ℕ) (pairs : List Pair) (old new : List (List ℕ)) → length deal.pots ≡ 1 → has_side Low deal.state.game ≡ false → CellsGrow deal taken 0 High pairs (slice_index_or old 0 []) (slice_index_or new 0 []) → PairsGrow deal taken pairs old new
only_pot deal taken pairs old new one no_low cells pot place High p has l =
    let zero_pot : pot ≡ 0 = omega arith in
    let P : ℕ → Type 0 = λ x. count_at new x High place ≡ count_at old x High place + count_by (λ q. pair_place deal taken x High q == place) pairs in
    subst P (sym zero_pot) (cells place l)
only_pot deal taken pairs old new one no_low cells pot place Low p has l = absurd (true≢false (sym has ∙ no_low))

-- pairs of a stretch are the last cards of runouts
pub grow_of : (deal : Showdown) (front : List (List ℕ)) (taken rest : List ℕ) (lo hi : ℕ) (stretch : List Pair) (old new : List (List ℕ)) → front ≡ [] → map cards_of_pair stretch ≡ slice_range (choose 2 rest) lo hi → PairsGrow deal taken stretch old new
    → CountsGrow deal (map (λ more. front ++ (taken ++ more) ∷ []) (slice_range (choose 2 rest) lo hi)) old new
grow_of deal front taken rest lo hi stretch old new none pairs grow pot place side p has l =
    let test : List (List ℕ) → Bool = λ runout. count_place deal pot side runout == place in
    let same : count_by test (map (λ more. front ++ (taken ++ more) ∷ []) (slice_range (choose 2 rest) lo hi)) ≡ count_by (λ q. pair_place deal taken pot side q == place) stretch =
    ap (λ f. count_by test (map (λ more. f ++ (taken ++ more) ∷ []) (slice_range (choose 2 rest) lo hi))) none
    ∙ count_map test (λ more. (taken ++ more) ∷ []) (slice_range (choose 2 rest) lo hi)
    ∙ ap (λ all. count_by (λ more. test ((taken ++ more) ∷ [])) all) (sym pairs)
    ∙ count_map (λ more. test ((taken ++ more) ∷ [])) cards_of_pair stretch in
    omega (arith, grow pot place side p has l, same)

-- one pair more is counted for all pots
pub pairs_next : (deal : Showdown) (taken : List ℕ) (pairs : List Pair) (i next : ℕ) (pair : Pair) (old mid new : List (List ℕ)) → next ≡ suc i → slice_get pairs i ≡ Some pair → PairsGrow deal taken (take i pairs) old mid → PairsGrow deal taken (pair ∷ []) mid new → PairsGrow deal taken (take next pairs) old new
pairs_next deal taken pairs i next pair old mid new n at was more pot place side p has l =
    let test : Pair → Bool = λ q. pair_place deal taken pot side q == place in
    let e : count_by test (take next pairs) ≡ count_by test (take i pairs) + count_by test (pair ∷ []) = ap (λ k. count_by test (take k pairs)) n ∙ count_next test pairs i pair at in
    omega (arith, was pot place side p has l, more pot place side p has l, e)

pub fits_next : (deal : Showdown) (taken : List ℕ) (pairs : List Pair) (i : ℕ) (old mid : List (List ℕ)) → CountsFit deal old (length pairs) → i < length pairs → PairsGrow deal taken (take i pairs) old mid → CountsFit deal mid 1
fits_next deal taken pairs i old mid fits l was pot place side p has k =
    omega (arith, fits pot place side p has k, was pot place side p has k, count_few (λ q. pair_place deal taken pot side q == place) pairs i)

-- a pair that makes nobody a flush is counted where the rows say
pub row_counted : (deal : Showdown) (taken : List ℕ) (rows : List Row) (pair : Pair) (at : ℕ) (old new : List (List ℕ)) → length rows ≡ length deal.pots
    → ((pot : ℕ) (side : Side) (row : Row) → pot < length deal.pots → slice_get rows pot ≡ Some row → row_place row side at ≡ pair_place deal taken pot side pair)
    → ((pot number : ℕ) (side : Side) (row : Row) → pot < length deal.pots → has_side side deal.state.game ≡ true → slice_get rows pot ≡ Some row → count_at new pot side number ≡ count_at old pot side number + cond (row_place row side at == number) 1 0)
    → PairsGrow deal taken (pair ∷ []) old new
row_counted deal taken rows pair at old new all same more pot place side p has l =
    let row = some_row rows pot (omega arith) in
    more pot place side row.0 p has row.1
    ∙ ap (λ n. count_at old pot side place + n) (ap (λ n. cond (n == place) 1 0) (same pot side row.0 p row.1) ∙ sym (count_one (λ q. pair_place deal taken pot side q == place) pair))
