-- Boards that lack one card.
use Rattle.std.specs.Prelude.{◌≡◌, ℕ, ◌+◌, ◌<◌, ◌≤◌, ◌==◌, ◌&&◌, Bool, List, [], ◌∷◌, length, slice_index}
use Rattle.card_sets.specs.Cards.{rank_of}
use Rattle.card_sets.specs.Games.{has_board}
use Rattle.card_sets.specs.declared.games.Side.TheVariants.{Low}
use Rattle.runout_ranges.specs.Runouts.{HasMember}
use Rattle.runout_ranges.specs.Shapes.{slots_of}
use Rattle.runout_ranges.specs.declared.shapes.Shape.{Shape}
use Rattle.showdown_tally.specs.Showdown.{Showdown, eligible_in}
use Rattle.showdown_tally.specs.Sides.{side_outcome}
use Rattle.showdown_tally.specs.Tallies.{runouts_after}
use Rattle.showdown_tally.specs.declared.table.Table.{Table}
use Rattle.runout_walk.specs.Bests.{best_set}
use Rattle.board_runouts.specs.Highs.{plain_of}
use Rattle.board_runouts.specs.Boards.{board_lacks}
use Rattle.board_ranks.specs.Values.{one_of}

-- whether a table's runouts are single cards of the board, which alone lacks one
abbrev pub are_rivers : Table → Shape → Bool
are_rivers table shape = has_board table.known.game && (board_lacks (slots_of shape) == 1)

-- one card makes nobody five of a suit
abbrev pub IsShortFor : List ℕ → ℕ → Type 0
IsShortFor most suit = (s : ℕ) → s < 4 → slice_index most s + one_of suit s ≤ 4

-- who wins both sides of a pot after a runout, the high by ranks alone
pub record IsWonBy (deal : Showdown) (pot : ℕ) (runout : List (List ℕ)) (high low : ℕ) : Type 0 where
  pub high_set : high ≡ best_set (plain_of deal.state runout) (eligible_in deal pot)
  pub low_set : low ≡ side_outcome Low deal pot runout

-- who wins both sides of each pot after each last card of a rank
abbrev pub AreWonWith : Showdown → ℕ → List ℕ → List ℕ → Type 0
AreWonWith deal rank highs lows = (pot card : ℕ) → pot < length deal.pots → rank_of card ≡ rank → HasMember (runouts_after deal.state) ((card ∷ []) ∷ [])
    → IsWonBy deal pot ((card ∷ []) ∷ []) (slice_index highs pot) (slice_index lows pot)
