-- What may be expected is rounded to the nearest unit.
use Rattle.std.proofs.Common.{ℕ, ◌+◌, ◌*◌, ◌/◌, ◌<◌, ◌≤◌, length, arith}
use Rattle.share_fractions.specs.Round.{round}
use Rattle.even_luck.specs.Figures.{full_figures, given_to}
use Rattle.showdown_tally.specs.Tallies.{runouts_after}
use Rattle.report_laws.specs.EvenLaws.{ExpectIsNearest, IsNearest}

quotient_below : (n d : ℕ) → 0 < d → d * (n / d) ≤ n
quotient_below n d some = omega arith

quotient_above : (n d : ℕ) → 0 < d → n < d * (n / d + 1)
quotient_above n d some = omega arith

pub rounded : (given pieces : ℕ) → 0 < pieces → IsNearest given pieces (round given pieces 0)
unfolding round
rounded given pieces some =
    let low = quotient_below (2 * given * 1 + pieces) (2 * pieces) (omega (arith, some)) in
    let high = quotient_above (2 * given * 1 + pieces) (2 * pieces) (omega (arith, some)) in
    record { not_above = omega (arith, low); not_below = omega (arith, high) }

pub expect_is_nearest : ExpectIsNearest
expect_is_nearest s deal hand some =
    rounded (given_to s.pots (full_figures deal) hand (length deal.pots)) (5040 * length (runouts_after deal.state)) (omega (arith, some))
