use Rattle.card_sets.specs.State.{state_of}
use Rattle.runout_ranges.proofs.MoreKnown.{no_more_runouts, sound_known}
use Rattle.runout_ranges.proofs.laws.law_no_more_runouts.Goals as goal

pub returns : goal.returns
returns c more enough =
    let before = c.args.before.now in
    let after = c.args.after.now in
    no_more_runouts (state_of before) (state_of after)
    (sound_known before.game before.count before.hands before.board before.dead c.rising.ensures.set c.rising-2.ensures.set c.hands_are_sets.ensures before.disjoint before.fitting)
    (sound_known after.game after.count after.hands after.board after.dead c.rising-3.ensures.set c.rising-4.ensures.set c.hands_are_sets-2.ensures after.disjoint after.fitting)
    more enough
