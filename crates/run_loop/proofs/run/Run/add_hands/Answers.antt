use Rattle.hand_cuts.specs.declared.limits.TheConstants.{INPUT_MAX}
use Rattle.run_loop.proofs.SumOrder.{summed_text}
use Rattle.run_loop.specs.declared.text_source.TextSource.{TextSource}
use Rattle.run_loop.proofs.run.Run.add_hands.Goals as goal

pub returns : goal.returns
returns g c =
    summed_text _ (λ (s : TextSource). s.left.now) (λ old new read given. given) g.H.HandSums.sums_of INPUT_MAX _ _ _ _ c.add_units.result c.requires.small c.add_units.ensures
