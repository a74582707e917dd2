-- First cards of a board, with all that is looked up at a pair after them.
use Rattle.std.specs.Prelude.{◌≡◌, ℕ, ◌+◌, ◌*◌, ◌<◌, ◌≤◌, ◌++◌, List, [], ◌∷◌, length, slice_get, Option, Some}
use Rattle.card_sets.specs.State.{state_of}
use Rattle.runout_ranges.specs.Runouts.{HasMember}
use Rattle.showdown_tally.specs.Deals.{deal_of}
use Rattle.showdown_tally.specs.Showdown.{Showdown}
use Rattle.showdown_tally.specs.SideCounts.{CountsFit}
use Rattle.showdown_tally.specs.Tallies.{runouts_after}
use Rattle.board_ranks.specs.declared.pair.Pair.{Pair}
use Rattle.board_runouts.specs.Highs.{AreBestFlushes}
use Rattle.board_runouts.specs.KeptFlushes.{AreFlushes}
use Rattle.board_runouts.specs.KeptRows.{AreRows, AreRowsFor, IsFlushPart, IsNamed, IsPart, PairsGrow}
use Rattle.board_runouts.specs.Pairs.{cards_of_pair}
use Rattle.board_runouts.specs.declared.flush.Flush.{Flush}
use Rattle.board_runouts.specs.declared.flush.Suited.{Suited}
use Rattle.board_runouts.specs.declared.flushes.Flushes.{Flushes}
use Rattle.board_runouts.specs.declared.front.Front.{Front}
use Rattle.board_runouts.specs.declared.row.Row.{Row}
use Rattle.board_runouts.specs.declared.start.Start.{Start}

-- from a place on there is a row for each pot, right for some first cards and named for them, and all rows of the list are right
pub record AreReady (start : Start) (list : List Row) (base : ℕ) : Type 0 where
  pub rows : AreRowsFor (deal_of start.spot.now.table) start.spot.now.table.pots start.taken list base
  pub names : (pot : ℕ) (row : Row) → pot < start.spot.now.table.pots → slice_get list (base + pot) ≡ Some row → IsNamed row pot start.ranks start.least
  pub right : AreRows (deal_of start.spot.now.table) list

-- the deal whose boards are counted
abbrev pub front_deal : Front → Showdown
front_deal front = deal_of front.spot.now.table

-- a pair as the last two cards makes a runout of them
abbrev pub IsRunoutWith : Front → Pair → Type 0
IsRunoutWith front pair = HasMember (runouts_after (state_of front.spot.now.table.known)) ((front.taken ++ cards_of_pair pair) ∷ [])

-- and so does each of some pairs
abbrev pub AreRunoutsWith : Front → List Pair → Type 0
AreRunoutsWith front pairs = (pair : Pair) → HasMember pairs pair → IsRunoutWith front pair

-- what somebody may have a flush with after such a runout
abbrev pub IsPartWith : Front → Pair → Option Suited → Type 0
IsPartWith front pair part = IsPart (state_of front.spot.now.table.known) ((front.taken ++ cards_of_pair pair) ∷ []) part

abbrev pub IsFlushWith : Front → Pair → Suited → Type 0
IsFlushWith front pair part = IsFlushPart (state_of front.spot.now.table.known) ((front.taken ++ cards_of_pair pair) ∷ []) part.board part.cards part.suit

-- the best flush of each pot with the cards of a suit
abbrev pub IsFlushFor : Front → Suited → Flush → Type 0
IsFlushFor front part flush = AreBestFlushes (front_deal front) part.cards part.suit flush.tops flush.sets

-- each pot has its two rows of counts, which have room for `more` runouts
pub record HasRoom (front : Front) (counts : List (List ℕ)) (more : ℕ) : Type 0 where
  pub rows : 2 * front.spot.now.table.pots ≤ length counts
  pub fits : CountsFit (front_deal front) counts more

-- what is kept of flushes is right where it bears the deal's number
abbrev pub HoldsFlushes : Front → Flushes → Type 0
HoldsFlushes front flushes = AreFlushes (front_deal front) flushes

-- the new counts are the old ones and those of the first cards with each of some pairs, in as many rows
pub record AddPairs (front : Front) (pairs : List Pair) (old new : List (List ℕ)) : Type 0 where
  pub counted : PairsGrow (front_deal front) front.taken pairs old new
  pub rows : length new ≡ length old
