use Rattle.std.proofs.Common.{◌≡◌, List, ℕ, sym, subst, take, arith}
use Rattle.runout_ranges.specs.Runouts.{HasMember}
use Rattle.runout_ranges.specs.Shapes.{runouts_of}
use Rattle.runout_ranges.proofs.SlotSteps.{same_used, whole_follows}
use Rattle.runout_ranges.proofs.successor.advance.Goals as goal

pub advance_slots-requires-clause-member : goal.advance_slots-requires-clause-member
advance_slots-requires-clause-member c =
    let shape = c.args.shape.now in
    let P : List (List ℕ) → Type 0 = λ x. HasMember (runouts_of shape) x in
    let m : HasMember (runouts_of shape) (take c.r.inside.used c.r.inside.sets) = subst P (sym c.r.view_is) c.requires in
    let used : c.r.inside.used ≡ shape.used = same_used shape.unseen shape.used c.r.inside.used shape.slots c.r.inside.sets (omega arith) (omega arith) m in
    let Q : ℕ → Type 0 = λ n. HasMember (runouts_of shape) (take n c.r.inside.sets) in
    subst Q used m

pub returns : goal.returns
returns c =
    let shape = c.args.shape.now in
    let P : List (List ℕ) → Type 0 = λ x. HasMember (runouts_of shape) x in
    let m : HasMember (runouts_of shape) (take c.r.inside.used c.r.inside.sets) = subst P (sym c.r.view_is) c.requires in
    let used : c.r.inside.used ≡ shape.used = same_used shape.unseen shape.used c.r.inside.used shape.slots c.r.inside.sets (omega arith) (omega arith) m in
    whole_follows c.advance_slots.result (runouts_of shape) shape.used c.r.inside.used c.r.inside.sets c.advance_slots.new.sets c.args.r.now used (omega arith) c.r.view_is c.advance_slots.ensures
