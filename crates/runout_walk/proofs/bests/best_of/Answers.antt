use Rattle.std.proofs.Common.{◌<◌, ◌≤◌, ◌^◌, arith}
use Rattle.std.proofs.Math.Nat.{pow-le-pow_right}
use Rattle.runout_walk.proofs.bests.best_of.Goals as goal

pub returns-clause-small : goal.returns-clause-small
returns-clause-small c =
    let power : 2 ^ c.loop-hand.hand ≤ 2 ^ 10 = pow-le-pow_right (let z : 0 < 2 = omega arith in z) (let h : c.loop-hand.hand ≤ 10 = omega arith in h) in
    let small = c.loop-hand.invariant.small in
    omega arith
