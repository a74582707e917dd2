-- Codes of the outcomes of rows, and sums of ones in their fields.
use Rattle.std.specs.Prelude.{◌≡◌, ℕ, ◌+◌, ◌/◌, ◌%◌, ◌<◌, ◌≤◌, true, List, [], ◌∷◌, ◌++◌, length, slice_get, slice_index, slice_index_or, Some}
use Rattle.card_sets.specs.Cards.{IsRising, rank_of}
use Rattle.card_sets.specs.Games.{has_side}
use Rattle.card_sets.specs.declared.games.Side.{Side}
use Rattle.card_sets.specs.declared.games.Side.TheVariants.{High, Low}
use Rattle.showdown_tally.specs.Showdown.{Showdown, eligible_in}
use Rattle.showdown_tally.specs.SideCounts.{count_at}
use Rattle.runout_walk.specs.Bests.{best_value}
use Rattle.board_runouts.specs.Highs.{plain_of}
use Rattle.board_runouts.specs.Fields.{code_of, end_of, ends_of, field, fields_at}
use Rattle.board_runouts.specs.KeptRows.{pair_place}
use Rattle.board_runouts.specs.SideRows.{AreRanksOf, IsBestOf, IsDealtWith}
use Rattle.board_runouts.specs.declared.codes.Codes.{Codes}
use Rattle.board_ranks.specs.declared.pair.Pair.{Pair}

-- at a place stands a one in the field of a code, whose outcome says who is best by ranks after any runout that gives the two ranks
pub record IsCodeFor (deal : Showdown) (codes : Codes) (place : ℕ) : Type 0 where
  pub add_is : slice_index codes.adds place ≡ field (code_of (slice_index codes.adds place))
  pub end_is : (pot : ℕ) (runout : List (List ℕ)) → pot < length deal.pots → IsDealtWith deal.state codes.ranks (place / 13) (place % 13) runout
      → IsBestOf deal pot runout (end_of pot High (slice_index_or codes.ends (code_of (slice_index codes.adds place)) [])) (end_of pot Low (slice_index_or codes.ends (code_of (slice_index codes.adds place)) [])) (best_value (plain_of deal.state runout) (eligible_in deal pot))

-- where there are enough codes, that is so at each place for pairs of ranks from the least on
abbrev pub AreCodes : Showdown → Codes → Type 0
AreCodes deal codes = codes.enough ≡ true → (place : ℕ) → place < 169 → codes.least ≤ place / 13 → place / 13 ≤ place % 13 → IsCodeFor deal codes place

abbrev pub AreAllCodes : Showdown → List Codes → Type 0
AreAllCodes deal list = (i : ℕ) (codes : Codes) → slice_get list i ≡ Some codes → AreCodes deal codes

-- codes are right for these first cards and all cards above them
pub record AreCodesFor (deal : Showdown) (taken : List ℕ) (codes : Codes) : Type 0 where
  pub of_ranks : AreRanksOf codes.ranks taken
  pub from_least : (card : ℕ) (more : List ℕ) → IsRising (taken ++ card ∷ more) → codes.least ≤ rank_of card
  pub right : AreCodes deal codes

-- a code stands for where a pair is counted in all pots
pub record IsCodeOf (deal : Showdown) (taken : List ℕ) (codes : Codes) (pair : Pair) (code : ℕ) : Type 0 where
  pub inside : code < 7
  pub add_is : slice_index codes.adds pair.ranks ≡ field code
  pub end_is : (pot : ℕ) (side : Side) → pot < length deal.pots → has_side side deal.state.game ≡ true → pair_place deal taken pot side pair ≡ slice_index (ends_of pot side codes.ends) code

-- the fields of a sum are added to the counts that they stand for
abbrev pub FieldsGrow : Showdown → Codes → ℕ → List (List ℕ) → List (List ℕ) → Type 0
FieldsGrow deal codes sum old new = (pot place : ℕ) (side : Side) → pot < length deal.pots → has_side side deal.state.game ≡ true → place < 2048
    → count_at new pot side place ≡ count_at old pot side place + fields_at (ends_of pot side codes.ends) sum place
