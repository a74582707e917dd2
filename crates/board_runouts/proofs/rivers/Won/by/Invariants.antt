use Rattle.std.proofs.Common.{◌≡◌, ℕ, ◌<◌, List, length}
use Rattle.std.specs.Prelude.{slice_index}
use Rattle.card_sets.specs.State.{state_of}
use Rattle.showdown_tally.specs.Deals.{deal_of}
use Rattle.board_runouts.specs.KeptRows.{AreWorthsAfter}
use Rattle.board_runouts.specs.Rivers.{IsWonBy}
use Rattle.board_runouts.proofs.rivers.Won.by.Given as goal

abbrev pub invariant-loop-pot : goal.invariant-loop-pot
invariant-loop-pot l = record {
  highs_size : length l.highs ≡ 10;
  lows_size : length l.lows ≡ 10;
  few_highs : (pot : ℕ) → slice_index l.highs pot < 1024;
  few_lows : (pot : ℕ) → slice_index l.lows pot < 1024;
  won : (pot : ℕ) (runout : List (List ℕ)) → pot < l.pot → AreWorthsAfter (state_of l.table.known) runout l.worths → IsWonBy (deal_of l.table) pot runout (slice_index l.highs pot) (slice_index l.lows pot);
}
