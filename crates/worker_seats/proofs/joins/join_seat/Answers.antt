use Rattle.std.proofs.Common.{◌≡◌, arith, subst, sym, ◌∙◌}
use Rattle.crossbeam_deque.specs.Handles.{worker_deque, worker_view}
use Rattle.worker_seats.specs.Joined.{MayJoin, joined_claim}
use Rattle.worker_seats.proofs.DequeRule.{merges}
use Rattle.worker_seats.proofs.JoinedPasses.{first}
use Rattle.worker_seats.proofs.joins.join_seat.Goals as goal

pub absorb-requires-clause-table : goal.absorb-requires-clause-table
absorb-requires-clause-table g c =
    let x = first c.args.seat.now.lanes.items (let r = c.requires.room in omega arith) in
    subst (MayJoin (worker_deque c.args.owner.now)) (sym (c.way_out.ensures.way x) ∙ c.in-Other.is) (c.requires.way x)

pub absorb-requires-clause-rule : goal.absorb-requires-clause-rule
absorb-requires-clause-rule g c = merges _ _ _ _ _ c.requires.part

pub returns-in-Other-clause-view : goal.returns-in-Other-clause-view
returns-in-Other-clause-view g c = λ x. subst (λ r. worker_view c.absorb.new.self ≡ joined_claim (worker_view c.args.owner.now) r) (sym (sym (c.way_out.ensures.way x) ∙ c.in-Other.is)) c.absorb.ensures.rule
