use Rattle.std.proofs.Common.{◌≡◌, ◌<◌, ◌≤◌, ◌/◌, ◌%◌, ℕ, length, get_or}
use Rattle.board_ranks.specs.Threes.{IsThreeWorth}
use Rattle.board_ranks.proofs.three_ranks.fill_threes.Given as goal

abbrev pub invariant-loop-place : goal.invariant-loop-place
invariant-loop-place l = record {
  places : length l.values ≡ 2197;
  right : (k : ℕ) → k < l.place → k / 169 ≤ k / 13 % 13 → k / 13 % 13 ≤ k % 13 → IsThreeWorth l.side l.fn.own (k / 169) (k / 13 % 13) (k % 13) (get_or l.values k 0);
}
