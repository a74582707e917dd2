use Rattle.std.proofs.Common.{◌≡◌, [], ◌∷◌, length}
use Rattle.showdown_tally.specs.Deals.{deal_of}
use Rattle.runout_walk.proofs.CallerLemmas.{IsCounted}
use Rattle.board_runouts.proofs.rivers.count_river.Given as goal

abbrev pub invariant-loop-pot : goal.invariant-loop-pot
invariant-loop-pot l = record {
  far : IsCounted (deal_of l.spot.table) ((l.card ∷ []) ∷ []) l.pot l.fn.counts l.counts;
  same : length l.counts ≡ length l.fn.counts;
}
