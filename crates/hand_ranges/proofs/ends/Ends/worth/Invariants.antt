use Rattle.std.proofs.Common.{◌≡◌, ℕ, ◌*◌, ◌<◌, ◌≤◌, take}
use Rattle.hand_ranges.specs.Boards.{worth_from}
use Rattle.hand_ranges.proofs.ends.Ends.worth.Given as goal

abbrev pub invariant-loop-place : goal.invariant-loop-place
invariant-loop-place g l = record {
  worth : (shares : ℕ → ℕ) → ((set n : ℕ) → set < 16 → goal.F-post g l.share set n → n ≡ shares set) → l.worth ≡ worth_from 0 (take l.place l.self.sets) shares;
  small : l.worth ≤ 5040 * worth_from 0 (take l.place l.self.sets) (λ set. 1);
}
