use Rattle.std.proofs.Common.{◌≡◌, ℕ, ◌-◌, ◌<◌, false, ◌||◌, length}
use Rattle.showdown_tally.specs.Tallies.{runouts_after}
use Rattle.job_blocks.specs.Blocks.{blocks_of}
use Rattle.tally_book.specs.Parts.{is_handed}
use Rattle.tally_book.specs.declared.limits.TheConstants.{BLOCKS_MAX}
use Rattle.worker_seats.specs.Reaches.{StaysOf}
use Rattle.worker_seats.specs.Lanes.{StaysLane, is_in}
use Rattle.worker_seats.proofs.lanes.drain.Given as goal

-- what was taken so far is what the lane shows, and it is handed in
abbrev pub invariant-loop : goal.invariant-loop
invariant-loop g l =
    (goal.iterator-loop g).can_next l.iterator' × (goal.iterator-loop g).is_finite l.iterator'
    × StaysLane (g.N.Naming.all - 1) (blocks_of (length (runouts_after g.N.Naming.deal.state))) l.fn.lane l.lane × (l.lane.ended ≡ false)
    × StaysOf l.fn.lane.reach l.lane.reach × (l.desk.part.parts ≡ l.fn.desk.part.parts)
    × ((b : ℕ) → b < BLOCKS_MAX → is_handed l.desk.part b ≡ (is_handed l.fn.desk.part b || is_in b l.lane.taken.items))
