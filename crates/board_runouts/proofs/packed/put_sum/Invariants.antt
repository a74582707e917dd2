use Rattle.std.proofs.Common.{◌≡◌, ◌+◌, ◌<◌, ℕ, length, true}
use Rattle.card_sets.specs.Games.{has_side}
use Rattle.card_sets.specs.declared.games.Side.{Side}
use Rattle.showdown_tally.specs.Deals.{deal_of}
use Rattle.showdown_tally.specs.SideCounts.{count_at}
use Rattle.board_runouts.specs.Fields.{ends_of, fields_at}
use Rattle.board_runouts.proofs.PackedSums.{fields_from}
use Rattle.board_runouts.proofs.packed.put_sum.Given as goal

abbrev pub invariant-loop-outcome : goal.invariant-loop-outcome
invariant-loop-outcome l = record {
  grown : (pot place : ℕ) (side : Side) → pot < length (deal_of l.spot.table).pots → has_side side l.spot.table.known.game ≡ true → place < 2048
      → count_at l.counts pot side place + fields_from (ends_of pot side l.codes.ends) l.outcome-index l.rest place ≡ count_at l.fn.counts pot side place + fields_at (ends_of pot side l.codes.ends) l.sum place;
  same : length l.counts ≡ length l.fn.counts;
}
