use Rattle.std.proofs.Common.{◌-◌, ◌≡◌, ◌<◌, length, get_or, set, ltb, cond, Bool, ℕ, rules, arith, subst, refl, sym, ap, ◌∙◌}
use Rattle.crossbeam_deque.specs.Handles.{worker_view}
use Rattle.worker_seats.specs.Reaches.{claim_of, IsOwn}
use Rattle.worker_seats.specs.Joined.{MayJoin}
use Rattle.std.proofs.lemmas.Bool.{lt-ltb}
use Rattle.worker_seats.proofs.DequeRule.{learns}
use Rattle.worker_seats.proofs.ToldPasses.{same_back, told_joined}
use Rattle.worker_seats.proofs.JoinedPasses.{IsJoining, first, get_or_any, not_own, joining_starts, joining_next, next_way, joined}
use Rattle.worker_seats.specs.declared.reaches.Reach.TheVariants.{Own}
use Rattle.worker_seats.proofs.joins.join_deque.Goals as goal

pub returns-in_default : goal.returns-in_default
returns-in_default g c =
    let id = c.requires.joinable.0 in
    let low : c.args.deque < length c.args.seats.now = (let e = c.requires.workers in omega arith) in
    let seat = get_or c.args.seats.now c.args.deque c.index-seats-deque.result in
    let ready = c.requires.joinable.1 c.args.deque c.index-seats-deque.result low in
    let x = first seat.lanes.items (let n = ready.count in let e = c.requires.workers in omega arith) in
    absurd (not_own id c.way_out.result (subst (IsOwn id) (sym (c.way_out.ensures.way x)) (ready.own x refl)) c.in_default.not-Own)

pub loop-w-init : goal.loop-w-init
loop-w-init g c =
    let id = c.requires.joinable.0 in
    let low : c.args.deque < length c.args.seats.now = (let e = c.requires.workers in omega arith) in
    let seat = get_or c.args.seats.now c.args.deque c.index-seats-deque.result in
    let ready = c.requires.joinable.1 c.args.deque c.index-seats-deque.result low in
    let x = first seat.lanes.items (let n = ready.count in let e = c.requires.workers in omega arith) in (
      id,
      subst (IsOwn id) (sym (c.way_out.ensures.way x) ∙ c.in-Own.is) (ready.own x refl),
      subst (λ r. IsJoining (g.N.Naming.all - 1) c.args.blocks c.args.deque id 0 c.args.seats.now (set c.args.seats.now c.args.deque c.way_out.new.seat) (claim_of r)) c.in-Own.is
          (joining_starts (g.N.Naming.all - 1) c.args.blocks c.args.deque id c.args.seats.now seat c.way_out.new.seat c.way_out.result x c.requires.workers.0 c.requires.workers.1 c.requires.joinable.1
          (get_or_any c.args.seats.now c.args.deque c.index-seats-deque.result seat low) c.way_out.ensures),
    )

pub join_seat-requires-clause-way : goal.join_seat-requires-clause-way
join_seat-requires-clause-way g c =
    let j = c.loop-w.invariant.2 in
    let low : c.loop-w.w < g.N.Naming.all - 1 = (let n = j.count in let e = c.requires.workers in search rules) in
    let here : c.loop-w.w < length c.loop-w.seats = (let n = j.count in let e = c.requires.workers in search rules) in
    let seat = get_or c.loop-w.seats c.loop-w.w c.index-seats-w.result in
    let is = get_or_any c.loop-w.seats c.loop-w.w c.index-seats-w.result seat here in
    let way = (next_way (g.N.Naming.all - 1) c.args.blocks c.args.deque c.loop-w.invariant.0 c.loop-w.w c.args.seats.now c.loop-w.seats (worker_view c.loop-w.owner) seat c.requires.workers.0 c.requires.workers.1 j low is).1 in
    λ x. subst (λ id. MayJoin id (get_or seat.lanes.items c.args.deque x).reach) (sym c.loop-w.invariant.1) (way x)

pub loop-w-preserved : goal.loop-w-preserved
loop-w-preserved g c =
    let id = c.loop-w.invariant.0 in
    let j = c.loop-w.invariant.2 in
    let low : c.loop-w.w < g.N.Naming.all - 1 = (let n = j.count in let e = c.requires.workers in search rules) in
    let here : c.loop-w.w < length c.loop-w.seats = (let n = j.count in let e = c.requires.workers in search rules) in
    let seat = get_or c.loop-w.seats c.loop-w.w c.index-seats-w.result in
    let is = get_or_any c.loop-w.seats c.loop-w.w c.index-seats-w.result seat here in
    let room = (next_way (g.N.Naming.all - 1) c.args.blocks c.args.deque id c.loop-w.w c.args.seats.now c.loop-w.seats (worker_view c.loop-w.owner) seat c.requires.workers.0 c.requires.workers.1 j low is).0 in
    let x = first seat.lanes.items (omega arith) in (
      id,
      c.join_seat.ensures.same ∙ c.loop-w.invariant.1,
      joining_next (g.N.Naming.all - 1) c.args.blocks c.args.deque id c.loop-w.w c.args.seats.now c.loop-w.seats (worker_view c.loop-w.owner) (worker_view c.join_seat.new.owner) seat c.join_seat.new.seat x c.requires.workers.0 c.requires.workers.1 j low is
          (c.join_seat.ensures.out x) (c.join_seat.ensures.view x),
    )

pub len_as-requires : goal.len_as-requires
len_as-requires g c =
    let j = c.loop-w.invariant.2 in
    let e : c.loop-w.w ≡ g.N.Naming.all - 1 = (let n = j.count in let w = c.requires.workers in search rules) in
    let on : cond {A = ℕ} (ltb c.args.deque c.loop-w.w) 1 0 ≡ 1 = ap (λ (b : Bool). cond {A = ℕ} b 1 0) (lt-ltb c.args.deque c.loop-w.w (let w = c.requires.workers in omega arith)) in
    learns (g.N.Naming.all - 1) _ (worker_view c.loop-w.owner) (let w = c.requires.workers in omega arith) (let s = j.stands in omega arith)

pub returns-clause-all : goal.returns-clause-all
returns-clause-all g c =
    let j = c.loop-w.invariant.2 in
    let e : c.loop-w.w ≡ g.N.Naming.all - 1 = (let n = j.count in let w = c.requires.workers in search rules) in
    (joined (g.N.Naming.all - 1) c.args.blocks c.args.deque c.loop-w.invariant.0 c.args.seats.now c.loop-w.seats (worker_view c.loop-w.owner) c.len_as.ensures.rule.0 c.requires.workers.0 c.requires.workers.1
    (subst (λ k. IsJoining (g.N.Naming.all - 1) c.args.blocks c.args.deque c.loop-w.invariant.0 k c.args.seats.now c.loop-w.seats (worker_view c.loop-w.owner)) e j) c.len_as.ensures.rule.2 c.index-seats-deque.result).0

pub returns-clause-same : goal.returns-clause-same
returns-clause-same g c =
    let n = g.N.Naming.all - 1 in
    let e : c.loop-w.w ≡ n = (let j = c.loop-w.invariant.2 in let k = j.count in let w = c.requires.workers in search rules) in
    let j = subst (λ k. IsJoining n c.args.blocks c.args.deque c.loop-w.invariant.0 k c.args.seats.now c.loop-w.seats (worker_view c.loop-w.owner)) e c.loop-w.invariant.2 in
    let at : c.args.deque < length c.loop-w.seats = (let k = j.count in let w = c.requires.workers in omega arith) in
    let seat = get_or c.loop-w.seats c.args.deque c.index-seats-deque-2.result in
    let is = get_or_any c.loop-w.seats c.args.deque c.index-seats-deque-2.result seat at in
    let size : length seat.lanes.items ≡ n = j.sized c.args.deque c.index-seats-deque-2.result (let k = j.count in omega arith) in
    let x = first seat.lanes.items (let w = c.requires.workers in omega arith) in
    same_back c.args.deque c.args.seats.now c.loop-w.seats seat c.put_back.new.seat (Own c.len_as.new.self) x (let k = j.count in omega arith)
    (joined n c.args.blocks c.args.deque c.loop-w.invariant.0 c.args.seats.now c.loop-w.seats (worker_view c.loop-w.owner) c.len_as.ensures.rule.0 c.requires.workers.0 c.requires.workers.1 j c.len_as.ensures.rule.2 seat).1 is
    (let w = c.requires.workers in omega arith) c.put_back.ensures

pub returns-clause-told : goal.returns-clause-told
returns-clause-told g c =
    let n = g.N.Naming.all - 1 in
    let e : c.loop-w.w ≡ n = (let j = c.loop-w.invariant.2 in let k = j.count in let w = c.requires.workers in search rules) in
    let j = subst (λ k. IsJoining n c.args.blocks c.args.deque c.loop-w.invariant.0 k c.args.seats.now c.loop-w.seats (worker_view c.loop-w.owner)) e c.loop-w.invariant.2 in
    let at : c.args.deque < length c.loop-w.seats = (let k = j.count in let w = c.requires.workers in omega arith) in
    let seat = get_or c.loop-w.seats c.args.deque c.index-seats-deque-2.result in
    let is = get_or_any c.loop-w.seats c.args.deque c.index-seats-deque-2.result seat at in
    let size : length seat.lanes.items ≡ n = j.sized c.args.deque c.index-seats-deque-2.result (let k = j.count in omega arith) in
    let x = first seat.lanes.items (let w = c.requires.workers in omega arith) in
    let all = joined n c.args.blocks c.args.deque c.loop-w.invariant.0 c.args.seats.now c.loop-w.seats (worker_view c.loop-w.owner) c.len_as.ensures.rule.0 c.requires.workers.0 c.requires.workers.1 j c.len_as.ensures.rule.2 seat in
    told_joined n c.args.blocks c.args.deque c.loop-w.invariant.0 c.requires.joinable.0 c.args.seats.now c.loop-w.seats (worker_view c.loop-w.owner) seat c.put_back.new.seat (Own c.len_as.new.self) x c.requires.workers.0 c.requires.workers.1
    c.requires.joinable.1 j all.2 is c.put_back.ensures c.len_as.ensures.same.2
    (same_back c.args.deque c.args.seats.now c.loop-w.seats seat c.put_back.new.seat (Own c.len_as.new.self) x (let k = j.count in omega arith) all.1 is (let w = c.requires.workers in omega arith) c.put_back.ensures)
