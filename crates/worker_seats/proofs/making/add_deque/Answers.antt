use Rattle.std.proofs.Common.{◌≡◌, ◌+◌, ◌-◌, ◌<◌, ◌≤◌, [], rules, arith, refl, sym, ap, subst, ◌∙◌, length, length-append, replicate, get_or, set}
use Rattle.std.proofs.lemmas.List.{length-replicate}
use Rattle.crossbeam_deque.specs.Handles.{worker_deque}
use Rattle.worker_seats.specs.Claims.{claim}
use Rattle.worker_seats.specs.Reaches.{IsOwn, IsOther}
use Rattle.worker_seats.specs.Lanes.{blocks_to, pushed_to}
use Rattle.worker_seats.specs.Starting.{IsSeated}
use Rattle.worker_seats.specs.declared.claims.Claim.{Claim}
use Rattle.worker_seats.specs.declared.reaches.Reach.TheVariants.{Own}
use Rattle.worker_seats.proofs.DequeRule.{begins}
use Rattle.worker_seats.proofs.JoinedPasses.{get_or_any}
use Rattle.worker_seats.proofs.MadeSeats.{IsDealing, dealt_seat, dealing_more, dealing_ends}
use Rattle.worker_seats.proofs.making.add_deque.Goals as goal

pub fifo_as-requires : goal.fifo_as-requires
fifo_as-requires g c = begins (g.N.Naming.all - 1)

pub loop-w-preserved : goal.loop-w-preserved
loop-w-preserved g c =
    let n = c.args.workers in
    let inv = c.loop-w.invariant in
    let d = inv.2 in
    let w = c.loop-w.w in
    let seating = c.requires.seats in
    let low : w < n = (let r = c.requires.workers in let t = c.loop-w-test.true in omega arith) in
    let at : w < length c.loop-w.seats = (let k = d.count in let m = seating.count in omega arith) in
    let seat = get_or c.loop-w.seats w c.index-seats-w.result in
    let is = get_or_any c.loop-w.seats w c.index-seats-w.result seat at in
    let seated : IsSeated n c.args.blocks c.args.deque seat = subst (IsSeated n c.args.blocks c.args.deque) (sym (d.later w c.index-seats-w.result (omega arith))) (seating.each w c.index-seats-w.result low) in
    let one = c.in_ok-add_other.ensures.one in
    let same = c.in_ok-add_other.ensures.same in
    let enough : length (pushed_to n c.args.blocks c.args.deque) ≤ c.share_of.result + n =
    (let s = c.share_of.ensures.value in omega (arith, length-append (blocks_to n c.args.blocks c.args.deque) (replicate n c.args.blocks), length-replicate n c.args.blocks)) in (
      same.1 ∙ inv.0,
      c.in_ok-add_other.ensures.left ∙ ap (λ (v : Claim). claim (v.stands_for - 1) v.pushed v.taken) inv.1 ∙ ap (λ k. claim k (pushed_to n c.args.blocks c.args.deque) []) (omega arith),
      subst (λ id. IsDealing n c.args.blocks c.args.deque (w + 1) id c.args.seats.now (set c.loop-w.seats w c.add_other.new.seat)) (sym same.0)
          (dealing_more n c.args.blocks c.args.deque w (worker_deque c.loop-w.owner) c.args.seats.now c.loop-w.seats seat c.add_other.new.seat seating.count d low (λ e. absurd (let t = c.loop-w-test.true in omega arith)) is
          (dealt_seat n c.args.blocks c.args.deque (c.share_of.result + n) (IsOther (worker_deque c.loop-w.owner)) seat c.add_other.new.seat one.0 seated one.1 one.3 (one.4 ∙ ap (λ (v : Claim). claim 1 v.pushed []) inv.1) enough one.2)),
    )

pub loop-w-2-preserved : goal.loop-w-2-preserved
loop-w-2-preserved g c =
    let n = c.args.workers in
    let inv = c.loop-w-2.invariant in
    let d = inv.2 in
    let w = c.loop-w-2.w in
    let seating = c.requires.seats in
    let at : w < length c.loop-w-2.seats = search rules in
    let low : w < n = (let k = d.count in let m = seating.count in omega arith) in
    let past : c.args.deque < w = search rules in
    let seat = get_or c.loop-w-2.seats w c.index-seats-w-in-loop-w-2.result in
    let is = get_or_any c.loop-w-2.seats w c.index-seats-w-in-loop-w-2.result seat at in
    let seated : IsSeated n c.args.blocks c.args.deque seat = subst (IsSeated n c.args.blocks c.args.deque) (sym (d.later w c.index-seats-w-in-loop-w-2.result (omega arith))) (seating.each w c.index-seats-w-in-loop-w-2.result low) in
    let one = c.in_ok-add_other-2.ensures.one in
    let same = c.in_ok-add_other-2.ensures.same in
    let enough : length (pushed_to n c.args.blocks c.args.deque) ≤ c.share_of.result + n =
    (let s = c.share_of.ensures.value in omega (arith, length-append (blocks_to n c.args.blocks c.args.deque) (replicate n c.args.blocks), length-replicate n c.args.blocks)) in (
      same.1 ∙ inv.0,
      c.in_ok-add_other-2.ensures.left ∙ ap (λ (v : Claim). claim (v.stands_for - 1) v.pushed v.taken) inv.1 ∙ ap (λ k. claim k (pushed_to n c.args.blocks c.args.deque) []) (omega arith),
      subst (λ id. IsDealing n c.args.blocks c.args.deque (w + 1) id c.args.seats.now (set c.loop-w-2.seats w c.add_other-in-loop-w-2.new.seat)) (sym same.0)
          (dealing_more n c.args.blocks c.args.deque w (worker_deque c.loop-w-2.owner) c.args.seats.now c.loop-w-2.seats seat c.add_other-in-loop-w-2.new.seat seating.count d low (λ e. absurd (omega arith)) is
          (dealt_seat n c.args.blocks c.args.deque (c.share_of.result + n) (IsOther (worker_deque c.loop-w-2.owner)) seat c.add_other-in-loop-w-2.new.seat one.0 seated one.1 one.3 (one.4 ∙ ap (λ (v : Claim). claim 1 v.pushed []) inv.1) enough one.2)),
    )

pub returns : goal.returns
returns g c =
    let n = c.args.workers in
    let inv = c.loop-w-2.invariant in
    let d = inv.2 in
    let seating = c.requires.seats in
    let w : c.loop-w-2.w ≡ n = (let k = d.count in let m = seating.count in search rules) in
    let low : c.args.deque < n = (let r = c.requires.workers in omega arith) in
    let at : c.args.deque < length c.loop-w-2.seats = (let k = d.count in let m = seating.count in omega arith) in
    let seat = get_or c.loop-w-2.seats c.args.deque c.index-seats-own.result in
    let is = get_or_any c.loop-w-2.seats c.args.deque c.index-seats-own.result seat at in
    let seated : IsSeated n c.args.blocks c.args.deque seat = subst (IsSeated n c.args.blocks c.args.deque) (sym (d.own c.index-seats-own.result)) (seating.each c.args.deque c.index-seats-own.result low) in
    let enough : length (pushed_to n c.args.blocks c.args.deque) ≤ c.share_of.result + n =
    (let s = c.share_of.ensures.value in omega (arith, length-append (blocks_to n c.args.blocks c.args.deque) (replicate n c.args.blocks), length-replicate n c.args.blocks)) in
    let one : g.N.Naming.all - c.loop-w-2.w ≡ 1 = (let r = c.requires.workers in omega arith) in
    dealing_ends n c.args.blocks c.args.deque (worker_deque c.loop-w-2.owner) c.args.seats.now c.loop-w-2.seats seat c.add_lane.new.seat seating low
    (subst (λ k. IsDealing n c.args.blocks c.args.deque k (worker_deque c.loop-w-2.owner) c.args.seats.now c.loop-w-2.seats) w d) is
    (dealt_seat n c.args.blocks c.args.deque (c.share_of.result + n) (IsOwn (worker_deque c.loop-w-2.owner)) seat c.add_lane.new.seat (Own c.loop-w-2.owner) seated c.in_ok-add_lane.ensures inv.0
    (inv.1 ∙ ap (λ k. claim k (pushed_to n c.args.blocks c.args.deque) []) one) enough refl)
