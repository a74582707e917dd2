use Rattle.std.proofs.Common.{rules, arith, ap, length}
use Rattle.worker_seats.proofs.making.push_seat.Goals as goal

pub returns-clause-seat : goal.returns-clause-seat
returns-clause-seat g c = record {
  seat = record { lanes = c.in_ok-lanes.lanes; desk = record { part = c.split.result; counter = c.args.counter; tally = c.zero.result } };
  items = c.push_reserved.ensures.items;
  seated = record {
    count = ap length c.in_ok-lanes.ensures.items;
    room = search rules;
    lanes = λ d x low. absurd (omega arith);
    untouched = λ d x low. absurd (omega arith);
    part = c.split.ensures.result;
  };
}
