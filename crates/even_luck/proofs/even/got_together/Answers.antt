use Rattle.std.proofs.Common.{◌≡◌, length, take, ap, ◌∙◌, arith}
use Rattle.std.proofs.Math.Seq.{take-length}
use Rattle.std.specs.List.{sum_by}
use Rattle.hand_verdict.specs.SeatSums.{got_by}
use Rattle.even_luck.specs.Figures.{paid_from}
use Rattle.even_luck.proofs.EvenFacts.{got_shared}
use Rattle.even_luck.proofs.even.got_together.Goals as goal

pub returns-clause-value : goal.returns-clause-value
returns-clause-value c =
    let seats = c.args.seats.now in
    let pots = c.args.pots.now in
    let end : c.loop-seat.seat-index ≡ length seats = omega arith in
    c.loop-seat.invariant.so_far ∙ ap (λ n. sum_by (λ seat. got_by (paid_from pots c.args.k) seat) (take n seats)) end
    ∙ ap (sum_by (λ seat. got_by (paid_from pots c.args.k) seat)) (take-length seats) ∙ got_shared seats pots c.args.k
