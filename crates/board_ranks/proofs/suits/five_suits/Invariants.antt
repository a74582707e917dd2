use Rattle.std.proofs.Common.{◌≡◌, ◌+◌, ◌*◌, ◌<◌, ◌≤◌, ℕ, length, Some}
use Rattle.std.specs.Prelude.{slice_get}
use Rattle.board_ranks.specs.Suits.{IsShort}
use Rattle.board_ranks.proofs.suits.five_suits.Given as goal

abbrev pub invariant-loop-place : goal.invariant-loop-place
invariant-loop-place l = record {
  length : length l.suits ≡ 16;
  suits : (a b suit : ℕ) → a < 4 → b < 4 → 4 * a + b < l.place → slice_get l.suits (4 * a + b) ≡ Some suit → 4 ≤ suit → IsShort l.counts a b;
}
