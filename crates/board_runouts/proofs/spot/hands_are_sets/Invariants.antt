use Rattle.std.proofs.Common.{◌<◌, ℕ, []}
use Rattle.std.specs.Prelude.{slice_index_or}
use Rattle.card_sets.specs.Cards.{IsCardSet}
use Rattle.board_runouts.proofs.spot.hands_are_sets.Given as goal

abbrev pub invariant-loop-own : goal.invariant-loop-own
invariant-loop-own l = (h : ℕ) → h < l.own-index → IsCardSet (slice_index_or l.hands h [])
