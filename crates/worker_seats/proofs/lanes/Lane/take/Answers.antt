use Rattle.std.proofs.Common.{◌-◌, ap, ◌∙◌}
use Rattle.worker_seats.specs.declared.claims.Claim.{Claim}
use Rattle.worker_seats.proofs.LaneFacts.{end_mark, ends}
use Rattle.worker_seats.proofs.lanes.Lane.take.Goals as goal

pub returns-else-number-blocks-clause-lane : goal.returns-else-number-blocks-clause-lane
returns-else-number-blocks-clause-lane g c = λ deque lane.
    let took = c.in-Some.ensures.took in
    record {
      open_way = c.take.ensures.way;
      one = ap (λ (w : Claim). w.stands_for) took.takes ∙ lane.one;
      pushed = ap (λ (w : Claim). w.pushed) took.takes ∙ lane.pushed;
      taken = ap (λ (w : Claim). w.taken) took.takes ∙ ends c.args.blocks c.in-Some.number _ c.args.self.now.taken.items c.args.self.now.ended lane.taken c.requires.more
          (end_mark (g.N.Naming.all - 1) c.args.blocks deque c.in-Some.number _ _ lane.pushed took c.if-number-blocks.false);
      room = lane.room;
    }
