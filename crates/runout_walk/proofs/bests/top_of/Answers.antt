use Rattle.std.proofs.Common.{◌≡◌, ◌+◌, suc, arith}
use Rattle.std.specs.Prelude.{slice_index}
use Rattle.runout_walk.proofs.BestHands.{top_more}
use Rattle.runout_walk.proofs.bests.top_of.Goals as goal

pub loop-hand-preserved : goal.loop-hand-preserved
loop-hand-preserved c =
    let next : c.loop-hand.hand + 1 ≡ suc c.loop-hand.hand = omega arith in
    rw next (omega (arith, top_more (slice_index c.args.values.now) c.args.hands c.loop-hand.hand, c.loop-hand.invariant, c.max-top.ensures, c.value_at.ensures))
