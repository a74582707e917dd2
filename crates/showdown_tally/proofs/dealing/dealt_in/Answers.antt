use Rattle.std.proofs.Common.{◌≡◌, ℕ, ◌<◌, zero, suc, sym, ap, ◌∙◌, arith, List, [], ◌∷◌, length, Some}
use Rattle.std.specs.Prelude.{slice_get, slice_index_or}
use Rattle.runout_ranges.specs.Shapes.{slots_of}
use Rattle.showdown_tally.proofs.SlotsAndSets.{dealt_here, dealt_on}
use Rattle.showdown_tally.proofs.dealing.dealt_in.Goals as goal

-- an element within a list is there
got : (sets : List (List ℕ)) (i : ℕ) (d set : List ℕ) → i < length sets → set ≡ slice_index_or sets i d → slice_get sets i ≡ Some set
got [] i d set l e = absurd (omega arith)
got (x ∷ sets) zero d set l e = ap Some (sym e)
got (x ∷ sets) (suc i) d set l e = got sets i d set (omega arith) e

pub returns-then-same_receiver : goal.returns-then-same_receiver
returns-then-same_receiver c =
    let member = got c.args.sets.now c.loop-place.place c.index-sets-place.result c.index-sets-place.result (omega arith) c.index-sets-place.is in
    sym (dealt_here (slots_of c.args.shape.now) c.args.sets.now c.loop-place.place _ c.args.receiver c.index-sets-place.result c.loop-place-test.true member (sym c.same_receiver.ensures ∙ c.if-same_receiver.true)) ∙ c.loop-place.invariant

pub loop-place-preserved : goal.loop-place-preserved
loop-place-preserved c =
    dealt_on (slots_of c.args.shape.now) c.args.sets.now c.loop-place.place _ c.args.receiver c.loop-place-test.true c.requires (sym c.same_receiver.ensures ∙ c.if-same_receiver.false) ∙ c.loop-place.invariant
