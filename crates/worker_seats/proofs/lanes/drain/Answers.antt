use Rattle.std.proofs.Common.{◌-◌, ◌==◌, ap, sym, subst, ◌∙◌, ◌||◌, length}
use Rattle.tally_book.specs.Parts.{Hand, is_handed}
use Rattle.worker_seats.specs.Lanes.{is_in, IsALane, StaysLane}
use Rattle.showdown_tally.specs.Showdown.{Showdown}
use Rattle.showdown_tally.specs.Tallies.{runouts_after}
use Rattle.job_blocks.specs.Blocks.{blocks_of}
use Rattle.worker_seats.proofs.LaneFacts.{handed_more, stays_on}
use Rattle.worker_seats.proofs.lanes.drain.Goals as goal

pub take-requires-clause-lane : goal.take-requires-clause-lane
take-requires-clause-lane g c =
    let blocks = c.blocks-blocks.ensures ∙ ap (λ (d : Showdown). blocks_of (length (runouts_after d.state))) c.requires.named in
    subst (λ n. IsALane (g.N.Naming.all - 1) n c.loop.lane) (sym blocks) (c.requires.lane.0, c.loop.invariant.2 c.requires.lane.0 c.requires.lane.1)

pub loop-preserved-in-Block : goal.loop-preserved-in-Block
loop-preserved-in-Block g c =
    let blocks = c.blocks-blocks.ensures ∙ ap (λ (d : Showdown). blocks_of (length (runouts_after d.state))) c.requires.named in (
      tt,
      tt,
      λ deque lane. subst (λ n. StaysLane (g.N.Naming.all - 1) n c.loop.lane c.take.new.self) blocks c.take.ensures.lane deque (c.loop.invariant.2 deque lane),
      c.in-Block.ensures.got.2,
      stays_on c.args.lane.now.reach c.loop.lane.reach c.take.new.self.reach c.loop.invariant.4 c.take.ensures.same,
      c.post.ensures.parts ∙ ap (λ (h : Hand). h.parts) c.count.ensures.part ∙ c.loop.invariant.5,
      λ b low. handed_more (is_handed c.args.desk.now.part b) (is_handed c.loop.desk.part b) (is_handed c.post.new.part b) b c.in-Block.block c.loop.lane.taken.items c.take.new.self.taken.items c.in-Block.ensures.got.1 (c.loop.invariant.6 b low)
          (c.post.ensures.handed b low ∙ ap (λ (h : Hand). is_handed h b || (b == c.in-Block.block)) c.count.ensures.part),
    )

pub returns-in-End-clause-lane : goal.returns-in-End-clause-lane
returns-in-End-clause-lane g c =
    let blocks = c.blocks-blocks.ensures ∙ ap (λ (d : Showdown). blocks_of (length (runouts_after d.state))) c.requires.named in
    λ deque lane. subst (λ n. StaysLane (g.N.Naming.all - 1) n c.loop.lane c.take.new.self) blocks c.take.ensures.lane deque (c.loop.invariant.2 deque lane)

pub returns-in-End-clause-same : goal.returns-in-End-clause-same
returns-in-End-clause-same g c = stays_on c.args.lane.now.reach c.loop.lane.reach c.take.new.self.reach c.loop.invariant.4 c.take.ensures.same

pub returns-in-End-clause-handed : goal.returns-in-End-clause-handed
returns-in-End-clause-handed g c = λ b low. c.loop.invariant.6 b low ∙ ap (λ taken. is_handed c.args.desk.now.part b || is_in b taken) (sym c.in-End.ensures.got.0)

pub loop-preserved : goal.loop-preserved
loop-preserved g c =
    let blocks = c.blocks-blocks.ensures ∙ ap (λ (d : Showdown). blocks_of (length (runouts_after d.state))) c.requires.named in (
      tt,
      tt,
      λ deque lane. subst (λ n. StaysLane (g.N.Naming.all - 1) n c.loop.lane c.take.new.self) blocks c.take.ensures.lane deque (c.loop.invariant.2 deque lane),
      c.in-Nothing.ensures.got.1,
      stays_on c.args.lane.now.reach c.loop.lane.reach c.take.new.self.reach c.loop.invariant.4 c.take.ensures.same,
      c.loop.invariant.5,
      λ b low. c.loop.invariant.6 b low ∙ ap (λ taken. is_handed c.args.desk.now.part b || is_in b taken) (sym c.in-Nothing.ensures.got.0),
    )
