use Rattle.std.proofs.Common.{◌≡◌, ◌<◌, ℕ, true}
use Rattle.std.specs.Prelude.{All, slice_index_or}
use Rattle.hand_audit.specs.LaterCards.{KnowsNoLessThan}
use Rattle.hand_verdict.specs.declared.streets.StreetState.{StreetState}
use Rattle.hand_blocks.specs.Streets.{IsCountedStreet}
use Rattle.even_luck.specs.Figures.{is_counted}
use Rattle.showdown_tally.specs.Deals.{deal_of}
use Rattle.run_loop.proofs.later.are_counted_streets.Given as goal

abbrev pub invariant-loop-state : goal.invariant-loop-state
invariant-loop-state l = All (KnowsNoLessThan l.table) l.states → is_counted (deal_of l.table) ≡ true
    → (k : ℕ) (d : StreetState) → k < l.state-index → IsCountedStreet (slice_index_or l.states k d)
