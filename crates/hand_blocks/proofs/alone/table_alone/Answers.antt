use Rattle.std.proofs.Common.{◌∷◌, [], ap}
use Rattle.card_sets.specs.State.{state_of}
use Rattle.hand_blocks.proofs.AloneFacts.{hands_of_full}
use Rattle.hand_blocks.proofs.alone.table_alone.Goals as goal

pub returns-clause-deal : goal.returns-clause-deal
returns-clause-deal c =
    ap (λ pot. record { state = state_of c.args.known; pots = pot ∷ [] })
    (hands_of_full c.hand_count.result _ c.hand_count.ensures.value c.hand_count.ensures.few)
