use Rattle.std.proofs.Common.{◌≡◌, ◌-◌, ◌+◌, ◌<◌, ap, sym, subst, ◌∙◌, rules, arith, length}
use Rattle.showdown_tally.specs.Tallies.{runouts_after}
use Rattle.job_blocks.specs.Blocks.{blocks_of}
use Rattle.worker_seats.proofs.WorkerWalk.{IsWorking, working_starts, working_same, working_on, has_worked, turn, all_seen, from_own, and_below, none_from_own, not_yet_from_own, now_from_own, others_from_own, others_and_below, not_yet_and_below, now_and_below}
use Rattle.worker_seats.specs.Lanes.{IsLane}
use Rattle.worker_seats.specs.declared.lanes.Lane.{Lane}
use Rattle.worker_seats.proofs.seat.Seat.work.Goals as goal

pub loop-deque-init : goal.loop-deque-init
loop-deque-init g c = working_starts (g.N.Naming.all - 1) (blocks_of (length (runouts_after g.N.Naming.deal.state))) (from_own c.args.worker c.args.worker) c.args.self.now c.requires.fresh (none_from_own c.args.worker)

pub loop-deque-preserved : goal.loop-deque-preserved
loop-deque-preserved g c =
    let w = c.loop-deque.invariant in
    working_on (g.N.Naming.all - 1) (blocks_of (length (runouts_after g.N.Naming.deal.state))) (from_own c.args.worker c.loop-deque.deque) (from_own c.args.worker (c.loop-deque.deque + 1))
    c.args.self.now.lanes.items c.loop-deque.lanes.items c.args.self.now.desk.part c.loop-deque.desk.part c.drain.new.desk.part c.loop-deque.deque c.index_mut-lane.result.now c.drain.new.lane w
    (let n = w.count in search rules) (not_yet_from_own c.args.worker c.loop-deque.deque) (now_from_own c.args.worker c.loop-deque.deque (search rules)) (λ d at ne. others_from_own c.args.worker c.loop-deque.deque d ne)
    c.index_mut-lane.ensures.value c.drain.ensures.lane c.drain.ensures.ended c.drain.ensures.same c.drain.ensures.handed c.drain.ensures.parts

pub loop-deque-2-preserved : goal.loop-deque-2-preserved
loop-deque-2-preserved g c =
    let w = c.loop-deque-2.invariant in
    working_on (g.N.Naming.all - 1) (blocks_of (length (runouts_after g.N.Naming.deal.state))) (and_below c.args.worker c.loop-deque-2.deque) (and_below c.args.worker (c.loop-deque-2.deque + 1))
    c.args.self.now.lanes.items c.loop-deque-2.lanes.items c.args.self.now.desk.part c.loop-deque-2.desk.part c.drain-in-loop-deque-2.new.desk.part c.loop-deque-2.deque c.index_mut-lane-in-loop-deque-2.result.now c.drain-in-loop-deque-2.new.lane w
    (let n = c.requires.worker in let t = c.loop-deque-2-test.true in omega arith) (not_yet_and_below c.args.worker c.loop-deque-2.deque (search rules)) (now_and_below c.args.worker c.loop-deque-2.deque) (λ d at ne. others_and_below c.args.worker c.loop-deque-2.deque d ne)
    c.index_mut-lane-in-loop-deque-2.ensures.value c.drain-in-loop-deque-2.ensures.lane c.drain-in-loop-deque-2.ensures.ended c.drain-in-loop-deque-2.ensures.same c.drain-in-loop-deque-2.ensures.handed c.drain-in-loop-deque-2.ensures.parts

pub drain-requires-clause-lane : goal.drain-requires-clause-lane
drain-requires-clause-lane g c =
    let w = c.loop-deque.invariant in
    let low : c.loop-deque.deque < g.N.Naming.all - 1 = (let n = w.count in search rules) in
    (c.loop-deque.deque, subst (λ (l : Lane _). IsLane (g.N.Naming.all - 1) (blocks_of (length (runouts_after g.N.Naming.deal.state))) c.loop-deque.deque l) (sym c.index_mut-lane.ensures.value) (w.lanes c.loop-deque.deque c.index_mut-lane.result.now low))

pub drain-requires-clause-fresh : goal.drain-requires-clause-fresh
drain-requires-clause-fresh g c =
    let w = c.loop-deque.invariant in
    let low : c.loop-deque.deque < g.N.Naming.all - 1 = (let n = w.count in search rules) in
    let u = w.untouched c.loop-deque.deque c.index_mut-lane.result.now low (not_yet_from_own c.args.worker c.loop-deque.deque) in
    (ap (λ (l : Lane _). l.taken.items) c.index_mut-lane.ensures.value ∙ u.taken, ap (λ (l : Lane _). l.ended) c.index_mut-lane.ensures.value ∙ u.ended)

pub drain-requires-in-loop-deque-2-clause-lane : goal.drain-requires-in-loop-deque-2-clause-lane
drain-requires-in-loop-deque-2-clause-lane g c =
    let w = c.loop-deque-2.invariant in
    let low : c.loop-deque-2.deque < g.N.Naming.all - 1 = (let n = c.requires.worker in let t = c.loop-deque-2-test.true in omega arith) in
    (c.loop-deque-2.deque, subst (λ (l : Lane _). IsLane (g.N.Naming.all - 1) (blocks_of (length (runouts_after g.N.Naming.deal.state))) c.loop-deque-2.deque l) (sym c.index_mut-lane-in-loop-deque-2.ensures.value) (w.lanes c.loop-deque-2.deque c.index_mut-lane-in-loop-deque-2.result.now low))

pub drain-requires-in-loop-deque-2-clause-fresh : goal.drain-requires-in-loop-deque-2-clause-fresh
drain-requires-in-loop-deque-2-clause-fresh g c =
    let w = c.loop-deque-2.invariant in
    let low : c.loop-deque-2.deque < g.N.Naming.all - 1 = (let n = c.requires.worker in let t = c.loop-deque-2-test.true in omega arith) in
    let u = w.untouched c.loop-deque-2.deque c.index_mut-lane-in-loop-deque-2.result.now low (not_yet_and_below c.args.worker c.loop-deque-2.deque (search rules)) in
    (ap (λ (l : Lane _). l.taken.items) c.index_mut-lane-in-loop-deque-2.ensures.value ∙ u.taken, ap (λ (l : Lane _). l.ended) c.index_mut-lane-in-loop-deque-2.ensures.value ∙ u.ended)

pub loop-deque-2-init : goal.loop-deque-2-init
loop-deque-2-init g c =
    let n = g.N.Naming.all - 1 in
    let blocks = blocks_of (length (runouts_after g.N.Naming.deal.state)) in
    let end : c.loop-deque.deque ≡ n = (let k = c.loop-deque.invariant.count in let r = c.requires.fresh.count in search rules) in
    working_same n blocks (from_own c.args.worker n) (and_below c.args.worker 0) c.args.self.now.lanes.items c.loop-deque.lanes.items c.args.self.now.desk.part c.loop-deque.desk.part
    (subst (λ k. IsWorking n blocks (from_own c.args.worker k) c.args.self.now.lanes.items c.loop-deque.lanes.items c.args.self.now.desk.part c.loop-deque.desk.part) end c.loop-deque.invariant)
    (λ d low. turn n c.args.worker d low)

pub returns : goal.returns
returns g c =
    let n = g.N.Naming.all - 1 in
    let blocks = blocks_of (length (runouts_after g.N.Naming.deal.state)) in
    let end : c.loop-deque-2.deque ≡ c.args.worker = search rules in
    has_worked n blocks (and_below c.args.worker c.args.worker) c.args.self.now (record { lanes = c.loop-deque-2.lanes; desk = c.loop-deque-2.desk })
    (subst (λ k. IsWorking n blocks (and_below c.args.worker k) c.args.self.now.lanes.items c.loop-deque-2.lanes.items c.args.self.now.desk.part c.loop-deque-2.desk.part) end c.loop-deque-2.invariant)
    (λ d low. all_seen c.args.worker d)
