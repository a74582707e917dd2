use Rattle.std.proofs.Common.{arith, ℕ, ◌+◌, ◌*◌, ◌/◌, ◌<◌, ◌≤◌}
use Rattle.share_fractions.specs.Round.{round}
use Rattle.text_laws.proofs.fractions.law_rounds_to_the_nearest_half_up.Goals as goal

-- so many times the quotient is at most the number, and once more is above it
quotient_below : (n d : ℕ) → 0 < d → d * (n / d) ≤ n
quotient_below n d some = omega arith

quotient_above : (n d : ℕ) → 0 < d → n < d * (n / d + 1)
quotient_above n d some = omega arith

pub returns-clause-not_above : goal.returns-clause-not_above
unfolding round
returns-clause-not_above c = λ a b places some. quotient_below _ (2 * b) (omega arith)

pub returns-clause-not_below : goal.returns-clause-not_below
unfolding round
returns-clause-not_below c = λ a b places some. quotient_above _ (2 * b) (omega arith)
