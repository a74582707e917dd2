-- The pots of an all-in's table.
use Rattle.std.specs.Prelude.{◌≡◌, ◌≤◌, ◌<◌, ℕ, List, length, slice_get, slice_index_or, Some}
use Rattle.card_sets.specs.PlayerSets.{has_player}
use Rattle.showdown_tally.specs.Deals.{deal_of}
use Rattle.showdown_tally.specs.declared.table.Table.{Table}
use Rattle.hand_verdict.specs.declared.settlement.PotLine.{PotLine}
use Rattle.hand_verdict.specs.declared.settlement.Settlement.{Settlement}

-- the table has the pots of a hand, ten at the most, and in each of them exactly those of its hands are eligible whose seats are
pub record HasPotsOf (settlement : Settlement) (seats : List ℕ) (table : Table) : Type 0 where
  pub many : length (deal_of table).pots ≡ length settlement.pots
  pub few : length settlement.pots ≤ 10
  pub eligible : (number : ℕ) (pot : PotLine) → slice_get settlement.pots number ≡ Some pot
      → (i : ℕ) → i < table.known.count → has_player (slice_index_or table.eligible number 0) i ≡ has_player pot.eligible (slice_index_or seats i 0)
