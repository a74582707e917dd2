-- Who wins both sides of a pot, by the ranks of the last two cards of the board.
use Rattle.std.specs.Prelude.{◌≡◌, ℕ, ◌+◌, ◌/◌, ◌%◌, ◌<◌, ◌≤◌, ◌==◌, List, [], length, slice_index, slice_index_or, count_by}
use Rattle.card_sets.specs.State.{State}
use Rattle.card_sets.specs.declared.games.Side.TheVariants.{Low}
use Rattle.rank_high.specs.High.{count_of_rank}
use Rattle.showdown_tally.specs.Laws.{IsFull}
use Rattle.showdown_tally.specs.Showdown.{Showdown, own_after, board_after, eligible_in}
use Rattle.showdown_tally.specs.SideCounts.{low_mark}
use Rattle.showdown_tally.specs.Sides.{side_outcome}
use Rattle.runout_walk.specs.Bests.{best_set, best_value}
use Rattle.board_runouts.specs.Highs.{plain_of}
use Rattle.board_ranks.specs.Values.{one_of}

-- the ranks are those of the cards, each as often
abbrev pub AreRanksOf : List ℕ → List ℕ → Type 0
AreRanksOf ranks cards = (r : ℕ) → r < 13 → count_by (λ k. k == r) ranks ≡ count_of_rank cards r

-- a runout gives the board cards of these ranks and one of each of two ranks more, and no hand any
pub record IsDealtWith (state : State) (ranks : List ℕ) (low high : ℕ) (runout : List (List ℕ)) : Type 0 where
  pub full : (h : ℕ) → h < length state.hands → IsFull state.game (own_after state runout h) (board_after state runout)
  pub own : (h : ℕ) → h < length state.hands → own_after state runout h ≡ slice_index_or state.hands h []
  pub counts : (r : ℕ) → r < 13 → count_of_rank (board_after state runout) r ≡ count_of_rank state.board r + count_by (λ k. k == r) ranks + one_of low r + one_of high r

-- who wins a pot after a runout: the set that has the best high by ranks alone, with the mark of a low, and the set of the low; and the
-- number of that high
pub record IsBestOf (deal : Showdown) (pot : ℕ) (runout : List (List ℕ)) (main low top : ℕ) : Type 0 where
  pub low_set : low ≡ side_outcome Low deal pot runout
  pub main_set : main ≡ best_set (plain_of deal.state runout) (eligible_in deal pot) + low_mark (side_outcome Low deal pot runout)
  pub best : top ≡ best_value (plain_of deal.state runout) (eligible_in deal pot)

-- a row says who wins a pot with first cards of these ranks, at 13 times the lower rank of the last two cards and the higher one, for lower ranks from
-- the least on, whichever cards they are
abbrev pub IsSideRow : Showdown → ℕ → List ℕ → ℕ → List ℕ → List ℕ → List ℕ → Type 0
IsSideRow deal pot ranks least mains lows tops = (place : ℕ) (runout : List (List ℕ)) → place < 169 → least ≤ place / 13 → place / 13 ≤ place % 13
    → IsDealtWith deal.state ranks (place / 13) (place % 13) runout → IsBestOf deal pot runout (slice_index mains place) (slice_index lows place) (slice_index tops place)
