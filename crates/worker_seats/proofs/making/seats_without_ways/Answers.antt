use Rattle.std.proofs.Common.{◌+◌, [], ◌∷◌, arith, sym, ap, subst, ◌∙◌, length, length-append, get_or}
use Rattle.worker_seats.specs.Starting.{IsSeated}
use Rattle.worker_seats.proofs.MadeSeats.{seats_more}
use Rattle.worker_seats.proofs.making.seats_without_ways.Goals as goal

pub loop-preserved : goal.loop-preserved
loop-preserved g c =
    let inv = c.loop.invariant in
    let one = c.in_ok-push_seat.ensures.seat in
    let spare = c.in_ok-push_seat.ensures.spare in (
      ap length one.items ∙ length-append c.loop.seats.items (one.seat ∷ []) ∙ ap (λ n. n + 1) inv.0,
      (let r = c.in_ok-push_seat.ensures.room in let i = inv.1 in omega arith),
      (λ w x low. subst (λ l. IsSeated c.args.workers 0 0 (get_or l w x)) (sym one.items) (seats_more c.args.workers 0 0 c.loop.counter c.loop.seats.items one.seat inv.0 inv.2 one.seated w x low)),
      (let a = spare.0 in let b = inv.3 in omega arith),
      spare.1 ∙ inv.4,
    )
