use Rattle.std.proofs.Common.{◌≡◌, List, ℕ, ◌++◌, length}
use Rattle.runout_ranges.proofs.choices.next_choice.Given as goal

-- what was looked at so far are the greatest cards, all of them chosen
abbrev pub invariant-loop-last : goal.invariant-loop-last
invariant-loop-last l = (top : List ℕ) × (l.low ++ top ≡ l.fn.cards) × (l.left ++ top ≡ l.fn.chosen)

abbrev pub decreases-loop-last : goal.decreases-loop-last
decreases-loop-last l = length l.left
