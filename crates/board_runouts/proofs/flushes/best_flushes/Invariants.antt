use Rattle.std.proofs.Common.{◌≡◌, ℕ, ◌<◌, length}
use Rattle.std.specs.Prelude.{slice_index}
use Rattle.showdown_tally.specs.Deals.{deal_of}
use Rattle.board_runouts.specs.Highs.{IsBestFlush}
use Rattle.board_runouts.proofs.flushes.best_flushes.Given as goal

abbrev pub invariant-loop-pot : goal.invariant-loop-pot
invariant-loop-pot l = record {
  tops_size : length l.tops ≡ 10;
  sets_size : length l.sets ≡ 10;
  few : (pot : ℕ) → slice_index l.sets pot < 1024;
  best : (pot : ℕ) → pot < l.pot → IsBestFlush (deal_of l.table) pot l.part.cards l.part.suit (slice_index l.tops pot) (slice_index l.sets pot);
}
