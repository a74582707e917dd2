use Rattle.std.specs.Prelude.{◌≡◌, ◌<◌, ℕ, length, None, IfSome, slice_index_or}
use Rattle.std.specs.Option.{option_map}
use Rattle.card_sets.specs.Cards.{IsCardSet}
use Rattle.showdown_tally.specs.Settling.{number_of}
use Rattle.hand_audit.specs.Settle.{value_on}
use Rattle.hand_audit.specs.Winning.{number_on}
use Rattle.hand_audit.proofs.worths.side_values.Given as goal

abbrev pub invariant-loop-seat : goal.invariant-loop-seat
invariant-loop-seat l = record {
  size : length l.values ≡ 11;
  so_far : (p : ℕ) → p < l.seat → number_of l.values p ≡ option_map (number_on l.side l.game) (value_on l.side l.game l.board (slice_index_or l.hands p None));
  sets : (p : ℕ) → p < l.seat → IfSome (slice_index_or l.hands p None) (λ own. IsCardSet own);
}
