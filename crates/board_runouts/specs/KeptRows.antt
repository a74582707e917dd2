-- Rows that are kept, and what flushes change.
use Rattle.std.specs.Prelude.{◌≡◌, ◌<◌, ◌≤◌, ℕ, ◌+◌, ◌==◌, ◌&&◌, true, if◌then◌else◌, List, [], ◌∷◌, ◌++◌, length, max, slice_get, slice_index, slice_index_or, count_by, Option, Some, MatchOption}
use Rattle.card_sets.specs.Cards.{IsRising, rank_of}
use Rattle.card_sets.specs.Disjoint.{apart}
use Rattle.card_sets.specs.Games.{has_side}
use Rattle.card_sets.specs.State.{State}
use Rattle.card_sets.specs.declared.games.Side.{Side}
use Rattle.card_sets.specs.declared.games.Side.TheVariants.{High, Low}
use Rattle.showdown_tally.specs.Showdown.{Showdown, board_after}
use Rattle.showdown_tally.specs.SideCounts.{count_at, count_place}
use Rattle.showdown_tally.specs.Sides.{AreSideNumbersAfter}
use Rattle.board_runouts.specs.Highs.{flush_of, high_of, plain_of}
use Rattle.board_runouts.specs.SideRows.{AreRanksOf, IsBestOf, IsSideRow}
use Rattle.board_runouts.specs.declared.flush.Suited.{Suited}
use Rattle.board_runouts.specs.Pairs.{cards_of_pair}
use Rattle.board_ranks.specs.declared.pair.Pair.{Pair}
use Rattle.board_runouts.specs.declared.row.Row.{Row}
use Rattle.board_runouts.specs.declared.sides.Worths.{Worths}

-- what each hand is worth after a runout: as a high by ranks alone, and as a low
pub record AreWorthsAfter (state : State) (runout : List (List ℕ)) (worths : Worths) : Type 0 where
  pub as_highs : (h : ℕ) → h < length state.hands → slice_index worths.highs h ≡ plain_of state runout h
  pub as_lows : AreSideNumbersAfter Low state runout worths.lows

-- a row says at a place who is best after a runout
abbrev pub IsBestAt : Showdown → ℕ → List (List ℕ) → Row → ℕ → Type 0
IsBestAt deal pot runout row place = IsBestOf deal pot runout (slice_index row.mains place) (slice_index row.lows place) (slice_index row.tops place)

-- a row is to be for a pot and first cards of these ranks
pub record IsNamed (row : Row) (pot : ℕ) (ranks : List ℕ) (least : ℕ) : Type 0 where
  pub pot_is : row.pot ≡ pot
  pub ranks_are : row.ranks ≡ ranks
  pub least_is : row.least ≡ least

-- a row is as it was but for a place
pub record IsButAt (was : Row) (place : ℕ) (row : Row) : Type 0 where
  pub pot_is : row.pot ≡ was.pot
  pub ranks_are : row.ranks ≡ was.ranks
  pub least_is : row.least ≡ was.least
  pub mains_are : (other : ℕ) → (other ≡ place → ⊥) → slice_index row.mains other ≡ slice_index was.mains other
  pub lows_are : (other : ℕ) → (other ≡ place → ⊥) → slice_index row.lows other ≡ slice_index was.lows other
  pub tops_are : (other : ℕ) → (other ≡ place → ⊥) → slice_index row.tops other ≡ slice_index was.tops other

-- a place is none of those of the pots, which stand from a base on
abbrev pub IsAway : ℕ → ℕ → ℕ → Type 0
IsAway base pots i = (pot : ℕ) → pot < pots → i ≡ base + pot → ⊥

-- each row is one of the pot that it names
abbrev pub AreRows : Showdown → List Row → Type 0
AreRows deal rows = (i : ℕ) (row : Row) → slice_get rows i ≡ Some row → IsSideRow deal row.pot row.ranks row.least row.mains row.lows row.tops

-- a row is one of a pot, for these first cards and all cards above them
pub record IsRowFor (deal : Showdown) (pot : ℕ) (taken : List ℕ) (row : Row) : Type 0 where
  pub right : IsSideRow deal pot row.ranks row.least row.mains row.lows row.tops
  pub of_ranks : AreRanksOf row.ranks taken
  pub from_least : (card : ℕ) (more : List ℕ) → IsRising (taken ++ card ∷ more) → row.least ≤ rank_of card

-- from a place on there stands a row for each pot
abbrev pub AreRowsFor : Showdown → ℕ → List ℕ → List Row → ℕ → Type 0
AreRowsFor deal pots taken rows base = (pot : ℕ) (row : Row) → pot < pots → slice_get rows (base + pot) ≡ Some row → IsRowFor deal pot taken row

-- a row of each pot, in their order
abbrev pub AreRowsOf : Showdown → List ℕ → List Row → Type 0
AreRowsOf deal taken rows = (pot : ℕ) (row : Row) → slice_get rows pot ≡ Some row → IsRowFor deal pot taken row

-- after a runout suits don't count
abbrev pub HasNoFlush : State → List (List ℕ) → Type 0
HasNoFlush state runout = (h : ℕ) → h < length state.hands → high_of state runout h ≡ plain_of state runout h

-- after a runout each hand is worth its ranks or its flush with some cards of the board, whichever is greater
pub record IsFlushPart (state : State) (runout : List (List ℕ)) (board cards : List ℕ) (kind : ℕ) : Type 0 where
  pub inside : kind < 4
  pub five : length cards ≤ 5
  pub board_is : board ≡ board_after state runout
  pub away : (h : ℕ) → h < length state.hands → apart (slice_index_or state.hands h []) cards ≡ true
  pub high : (h : ℕ) → h < length state.hands → high_of state runout h ≡ max (plain_of state runout h) (flush_of state cards kind h)

abbrev pub IsPart : State → List (List ℕ) → Option Suited → Type 0
IsPart state runout part = MatchOption part (HasNoFlush state runout) (λ s. IsFlushPart state runout s.board s.cards s.suit)

-- what `times` runouts add at a place of the counts of a side of a pot, by the places where they end for one pot
abbrev pub so_many : ℕ → ℕ → ℕ → ℕ → ℕ → Side → ℕ → ℕ
so_many times pot main low p High place = if (p == pot) && (main == place) then times else 0
so_many times pot main low p Low place = if (p == pot) && (low == place) then times else 0

-- where a row counts a runout on a side
abbrev pub row_place : Row → Side → ℕ → ℕ
row_place row High place = slice_index row.mains place
row_place row Low place = slice_index row.lows place

-- where a runout with a pair as the last two cards of the board is counted
abbrev pub pair_place : Showdown → List ℕ → ℕ → Side → Pair → ℕ
pair_place deal taken pot side pair = count_place deal pot side ((taken ++ cards_of_pair pair) ∷ [])

-- the new counts of a side of a pot are the old ones and those of first cards with each of some pairs
abbrev pub CellsGrow : Showdown → List ℕ → ℕ → Side → List Pair → List ℕ → List ℕ → Type 0
CellsGrow deal taken pot side pairs old new = (place : ℕ) → place < 2048 → slice_index new place ≡ slice_index old place + count_by (λ pair. pair_place deal taken pot side pair == place) pairs

-- the new counts of each side of each pot are the old ones and those of first cards with each of some pairs
abbrev pub PairsGrow : Showdown → List ℕ → List Pair → List (List ℕ) → List (List ℕ) → Type 0
PairsGrow deal taken pairs old new = (pot place : ℕ) (side : Side) → pot < length deal.pots → has_side side deal.state.game ≡ true → place < 2048
    → count_at new pot side place ≡ count_at old pot side place + count_by (λ pair. pair_place deal taken pot side pair == place) pairs
