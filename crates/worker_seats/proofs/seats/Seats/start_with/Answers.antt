use Rattle.std.proofs.Common.{◌≡◌, ◌+◌, ◌-◌, rules, arith, ap, sym, subst, ◌∙◌, length, false}
use Rattle.showdown_tally.specs.Showdown.{Showdown}
use Rattle.showdown_tally.specs.Tallies.{runouts_after}
use Rattle.job_blocks.specs.Blocks.{blocks_of}
use Rattle.tally_book.specs.Parts.{Hand}
use Rattle.worker_seats.specs.Starting.{IsSeating}
use Rattle.worker_seats.specs.Sittings.{IsSitting}
use Rattle.worker_seats.proofs.LentSlices.{back}
use Rattle.worker_seats.proofs.MadeSeats.{seating_any, seating_done, seating_parts}
use Rattle.worker_seats.proofs.SeenSeats.{sitting_starts, sitting_fresh}
use Rattle.worker_seats.proofs.seats.Seats.start_with.Goals as goal

pub loop-deque-init : goal.loop-deque-init
loop-deque-init g c = seating_any c.args.workers (blocks_of (length (runouts_after g.N.Naming.deal.state))) c.in_ok-seats.seats.items c.in_ok-seats.ensures.seats

pub loop-deque-preserved : goal.loop-deque-preserved
loop-deque-preserved g c =
    let blocks = c.blocks-in-loop-deque.ensures ∙ ap (λ (d : Showdown). blocks_of (length (runouts_after d.state))) c.requires.named in
    let seating = subst (λ b. IsSeating c.args.workers b (c.loop-deque.deque + 1) c.add_deque.new.seats) blocks c.in_ok-add_deque.ensures in
    subst (IsSeating c.args.workers (blocks_of (length (runouts_after g.N.Naming.deal.state))) (c.loop-deque.deque + 1))
    (sym (back c.loop-deque.seats.len c.add_deque.new.seats c.loop-deque.seats.items (seating.count ∙ sym c.loop-deque.invariant.count) (search rules)))
    seating

pub invariant_of-result : goal.invariant_of-result
invariant_of-result g c =
    let blocks = blocks_of (length (runouts_after g.N.Naming.deal.state)) in
    let all : c.loop-deque.deque ≡ c.args.workers = search rules in
    let many : c.args.workers ≡ g.N.Naming.all - 1 = (let r = c.requires.workers in omega arith) in
    let spare = c.in_ok-seats.ensures.spare in
    let parts = seating_parts c.args.workers blocks c.loop-deque.deque c.loop-deque.seats.items c.loop-deque.invariant in
    subst (λ n. IsSitting n blocks g.N.Ledger.parts false c.loop-deque.seats.items c.seats_without_ways.new.spare) many
    (sitting_starts c.args.workers blocks g.N.Ledger.parts c.loop-deque.seats.items c.seats_without_ways.new.spare c.requires.workers.0 c.requires.workers.1
    (seating_done c.args.workers blocks c.loop-deque.seats.items (subst (λ k. IsSeating c.args.workers blocks k c.loop-deque.seats.items) all c.loop-deque.invariant))
    (spare.1 ∙ ap (λ (h : Hand). h.amount) c.in_ok-book.ensures.part) (let a = spare.0 in let r = c.requires.workers.2 in omega arith))

pub returns : goal.returns
returns g c =
    let blocks = blocks_of (length (runouts_after g.N.Naming.deal.state)) in
    let all : c.loop-deque.deque ≡ c.args.workers = search rules in
    sitting_fresh c.args.workers blocks c.loop-deque.seats.items c.requires.workers.0 (subst (λ k. IsSeating c.args.workers blocks k c.loop-deque.seats.items) all c.loop-deque.invariant)
