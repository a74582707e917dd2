use Rattle.std.proofs.Common.{refl, sym, ◌∙◌, arith, length}
use Rattle.std.proofs.lemmas.Option.{slice_get_read}
use Rattle.runout_ranges.specs.Shapes.{slots_of}
use Rattle.showdown_tally.proofs.CallerLemmas.{dealt_here, dealt_on}
use Rattle.street_walk.proofs.after.dealt_to.Goals as goal

pub returns-then-same_receiver : goal.returns-then-same_receiver
returns-then-same_receiver c =
    let member = slice_get_read c.args.sets.now (length c.args.sets.now) c.loop-place.place c.index-sets-place.result refl (omega arith) c.index-sets-place.is in
    sym (dealt_here (slots_of c.args.shape.now) c.args.sets.now c.loop-place.place _ c.args.receiver c.index-sets-place.result c.loop-place-test.true member (sym c.same_receiver.ensures ∙ c.if-same_receiver.true)) ∙ c.loop-place.invariant

pub loop-place-preserved : goal.loop-place-preserved
loop-place-preserved c =
    dealt_on (slots_of c.args.shape.now) c.args.sets.now c.loop-place.place _ c.args.receiver c.loop-place-test.true c.requires (sym c.same_receiver.ensures ∙ c.if-same_receiver.false) ∙ c.loop-place.invariant
