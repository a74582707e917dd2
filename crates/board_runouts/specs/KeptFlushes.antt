-- Flushes that are kept.
use Rattle.std.specs.Prelude.{◌≡◌, ◌≤◌, ℕ, length, slice_get, Some}
use Rattle.showdown_tally.specs.Showdown.{Showdown}
use Rattle.board_runouts.specs.Highs.{AreBestFlushes}
use Rattle.board_runouts.specs.declared.flush.Flush.{Flush}
use Rattle.board_runouts.specs.declared.flushes.Flushes.{Flushes}

-- each has its place, and none is of a later deal
pub record ArePast (flushes : Flushes) : Type 0 where
  pub places : length flushes.list.items ≡ 2048
  pub each : (i : ℕ) (flush : Flush) → slice_get flushes.list.items i ≡ Some flush → flush.stamp ≤ flushes.stamp

-- each of the deal is the best of its cards in each pot
pub record AreFlushes (deal : Showdown) (flushes : Flushes) : Type 0 where
  pub past : ArePast flushes
  pub best : (i : ℕ) (flush : Flush) → slice_get flushes.list.items i ≡ Some flush → flush.stamp ≡ flushes.stamp → AreBestFlushes deal flush.cards flush.suit flush.tops flush.sets
