use Rattle.std.proofs.Common.{◌≡◌, ◌≢◌, ◌<◌, ◌∙◌, [], length, ap, arith, inl, inr, get_or-set_same, get_or-set_other}
use Rattle.std.specs.Prelude.{slice_index_or}
use Rattle.std.specs.Option.{option_map}
use Rattle.std.proofs.Math.ListN.{length-set}
use Rattle.std.proofs.lemmas.Bool.{cases_lt}
use Rattle.showdown_tally.specs.Numbers.{side_number}
use Rattle.showdown_tally.specs.Showdown.{best}
use Rattle.showdown_tally.proofs.SlotsAndSets.{index_default}
use Rattle.showdown_tally.proofs.runout.side_values.Goals as goal

pub loop-hand-preserved : goal.loop-hand-preserved
loop-hand-preserved c =
    let own : c.index-hands-hand.result ≡ slice_index_or c.args.hands.now c.loop-hand.hand [] = c.index-hands-hand.is ∙ index_default c.args.hands.now c.loop-hand.hand c.index-hands-hand.result [] c.loop-hand-test.true in
    record {
      size = rw length-set c.loop-hand.invariant.size;
      so_far = λ h l. elim (cases_lt h c.loop-hand.hand) [
        | inl lt ↦ let ne : h ≢ c.loop-hand.hand = omega arith in rw get_or-set_other (c.loop-hand.invariant.so_far h lt)
        | inr ge ↦
            let same : h ≡ c.loop-hand.hand = omega arith in
            let inside : c.loop-hand.hand < length c.loop-hand.values = omega arith in
            rw (same, get_or-set_same) (c.value_beside.ensures ∙ ap (λ cards. option_map (side_number c.args.side c.args.game) (best c.args.side c.args.game cards c.args.board)) own)
      ];
    }
