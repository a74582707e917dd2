-- What own cards are worth with a board and two cards more, by the ranks of the two alone.
use Rattle.std.specs.Prelude.{◌≡◌, ℕ, ◌-◌, ◌^◌, true, List, Option, None}
use Rattle.std.specs.Option.{option_map}
use Rattle.card_sets.specs.Cards.{IsCardSet, union}
use Rattle.card_sets.specs.Disjoint.{apart}
use Rattle.card_sets.specs.RankCounts.{AreCounted, one_more}
use Rattle.card_sets.specs.declared.games.Game.{Game}
use Rattle.card_sets.specs.declared.games.Game.TheVariants.{Holdem, Omaha, Omaha8, Stud, Stud8, Razz, Draw5, Lowball27, Triple27}
use Rattle.card_sets.specs.declared.sets.ByRank.{ByRank}
use Rattle.rank_high.specs.High.{count_of_rank}
use Rattle.omaha_ranks.specs.Omaha.{eight_number, fives}
use Rattle.board_ranks.specs.HighParts.{plain_number}
use Rattle.board_ranks.specs.Values.{IsWith}

-- a full board beside own cards has the ranks of a board, and one card of each of two ranks more
pub record IsBoardWith (own board : List ℕ) (low high : ℕ) (full : List ℕ) : Type 0 where
  pub cards : IsCardSet full
  pub apart : apart own full ≡ true
  pub ranks : IsWith board low high full

-- there is none
abbrev pub HasNoBoard : List ℕ → List ℕ → ℕ → ℕ → Type 0
HasNoBoard own board low high = (full : List ℕ) → IsBoardWith own board low high full → ⊥

-- a low's number turned round, so that the better low has the greater
abbrev pub turned : ℕ → ℕ
turned n = 2 ^ 32 - 1 - n

-- the number of the best low of own cards with a board, turned round so that greater is better: of the games with a board Omaha Hi/Lo
-- alone has lows
abbrev pub low_number : Game → List ℕ → List ℕ → Option ℕ
low_number Omaha8 own board = option_map turned (eight_number (fives own board))
low_number Holdem own board = None
low_number Omaha own board = None
low_number Stud own board = None
low_number Stud8 own board = None
low_number Razz own board = None
low_number Draw5 own board = None
low_number Lowball27 own board = None
low_number Triple27 own board = None

-- the numbers are what own cards are worth with each such board: as a high, if there were no flushes, and as a low
pub record AreWorthWith (game : Game) (own board : List ℕ) (low high : ℕ) (value : ℕ) (turned : Option ℕ) : Type 0 where
  pub as_high : (full : List ℕ) → IsBoardWith own board low high full → value ≡ plain_number game own full
  pub as_low : (full : List ℕ) → IsBoardWith own board low high full → turned ≡ low_number game own full

-- the counts of each rank are those of own cards and a board
abbrev pub AreRanksWith : List ℕ → List ℕ → ByRank → Type 0
AreRanksWith own board ranks = AreCounted ranks (count_of_rank (union own board))

-- and with one card of a rank more
abbrev pub AreRanksAnd : List ℕ → List ℕ → ℕ → ByRank → Type 0
AreRanksAnd own board rank ranks = AreCounted ranks (one_more rank (count_of_rank (union own board)))
