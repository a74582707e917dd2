use Rattle.std.proofs.Common.{arith, ap, ◌∙◌, ◌≡◌, ℕ, Bool, true, false, refl, [], length, length-append, cond, eqb, ◌%◌, ◌∷◌}
use Rattle.worker_seats.specs.Lanes.{blocks_to}
use Rattle.worker_seats.proofs.LaneFacts.{blocks_more}
use Rattle.worker_seats.proofs.pushes.share_of.Goals as goal

one : (b : Bool) (x : ℕ) → length (cond b (x ∷ []) []) ≡ cond {A = ℕ} b 1 0
one true x = refl
one false x = refl

pub loop-block-preserved : goal.loop-block-preserved
loop-block-preserved c =
    let more = ap length (blocks_more c.args.workers c.loop-block.block c.args.deque) ∙ length-append (blocks_to c.args.workers c.loop-block.block c.args.deque) (cond (eqb (c.loop-block.block % c.args.workers) c.args.deque) (c.loop-block.block ∷ []) []) in
    let o = one (eqb (c.loop-block.block % c.args.workers) c.args.deque) c.loop-block.block in
    let v = c.one_if-share.ensures.value in
    let m = c.one_if-share.ensures.most in
    let i = c.loop-block.invariant in
    (omega arith, omega arith)
