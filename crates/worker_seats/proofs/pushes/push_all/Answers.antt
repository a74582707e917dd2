use Rattle.std.proofs.Common.{rules, arith, ap, sym, ◌∙◌, ◌-◌, [], length, length-append, cond, eqb, ◌%◌, ◌∷◌, ◌++◌, ◌+◌}
use Rattle.worker_seats.specs.Claims.{claim}
use Rattle.worker_seats.specs.Lanes.{blocks_to}
use Rattle.worker_seats.specs.declared.claims.Claim.{Claim}
use Rattle.worker_seats.proofs.LaneFacts.{room_here, blocks_more}
use Rattle.worker_seats.proofs.pushes.push_all.Goals as goal

pub push_where-requires-clause-room : goal.push_where-requires-clause-room
push_where-requires-clause-room g c = λ here.
    let room = room_here c.args.workers c.args.deque c.loop-block.block c.args.blocks (search rules) here in
    let i = c.loop-block.invariant in
    let r = c.requires.room in
    omega arith

pub loop-block-preserved : goal.loop-block-preserved
loop-block-preserved g c =
    let i = c.loop-block.invariant in
    let more = blocks_more c.args.workers c.loop-block.block c.args.deque in
    let same = c.push_where.ensures.same in (
      same.0 ∙ i.0,
      same.1 ∙ i.1,
      (let a = same.3 in let b = i.2 in omega arith),
      c.push_where.ensures.pushed ∙ ap (λ (v : Claim). claim v.stands_for (v.pushed ++ cond (eqb (c.loop-block.block % c.args.workers) c.args.deque) (c.loop-block.block ∷ []) []) v.taken) i.3 ∙ ap (λ l. claim (g.N.Naming.all - 1) l []) (sym more),
      c.push_where.ensures.index ∙ ap (λ n. n + length (cond (eqb (c.loop-block.block % c.args.workers) c.args.deque) (c.loop-block.block ∷ []) [])) i.4 ∙ sym (length-append (blocks_to c.args.workers c.loop-block.block c.args.deque) (cond (eqb (c.loop-block.block % c.args.workers) c.args.deque) (c.loop-block.block ∷ []) [])) ∙ ap length (sym more),
    )
