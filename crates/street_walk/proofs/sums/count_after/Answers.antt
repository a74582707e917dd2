use Rattle.std.proofs.Common.{◌≡◌, ◌≤◌, map, take, length, sym, subst, arith}
use Rattle.std.specs.Prelude.{Result, Err, IsTrue, ◌↔◌}
use Rattle.std.specs.Result.{IsErrOf}
use Rattle.card_sets.specs.PlayerSets.{hands_of, all_within}
use Rattle.card_sets.specs.State.{State, state_of}
use Rattle.runout_ranges.specs.Runouts.{HasMember}
use Rattle.showdown_tally.specs.Deals.{deal_of}
use Rattle.showdown_tally.specs.Tallies.{runouts_after}
use Rattle.runout_ranges.specs.Jobs.{IsDeckShort, IsAboveLimit}
use Rattle.runout_ranges.specs.declared.limits.TheConstants.{RUNOUT_MAX}
use Rattle.runout_ranges.specs.declared.limits.JobFault.{JobFault}
use Rattle.runout_ranges.specs.declared.limits.JobFault.TheVariants.{DeckShort, AboveLimit}
use Rattle.street_walk.specs.Streets.{choices_of}
use Rattle.street_walk.proofs.AfterStreet.{of_next}
use Rattle.street_walk.proofs.EnoughAfter.{enough_after}
use Rattle.street_walk.proofs.SumWalk.{few_after}
use Rattle.street_walk.proofs.sums.count_after.Goals as goal

-- a job that is refused has too few cards or too many runouts
refused : {T : Type 0} (r : Result T JobFault) (s : State) (fault : JobFault) → r ≡ Err fault → (IsErrOf r DeckShort ↔ IsDeckShort s) → (IsErrOf r AboveLimit ↔ ((¬ IsDeckShort s) × IsAboveLimit s))
    → ¬ IsDeckShort s → length (runouts_after s) ≤ RUNOUT_MAX → ⊥
refused r s DeckShort is short above enough few = enough (short.0 is)
refused r s AboveLimit is short above enough few = let more = (above.0 is).1 in omega arith

pub invariant_of-later-clause-in_hands : goal.invariant_of-later-clause-in_hands
invariant_of-later-clause-in_hands g c = subst (λ n. IsTrue (all_within n c.args.table.now.eligible)) (sym c.after_street.ensures.count) c.args.table.now.in_hands

pub unreachable-requires : goal.unreachable-requires
unreachable-requires g c =
    let table = c.args.table.now in
    let s = state_of table.known in
    let choice = c.args.choice.now in
    let same = c.after_street.ensures.known in
    let member : HasMember (choices_of s) choice = of_next (λ all. HasMember all choice) s c.args.step.now c.requires.next c.requires.choice in
    let few = few_after (deal_of table) choice (c.law_streets_add_up.ensures (map hands_of (take table.pots table.eligible))) c.requires.few member in
    refused c.make.result (state_of c.after_street.result) c.in-Err.field-0 c.in-Err.is c.make.ensures.short c.make.ensures.above
    (subst (λ t. ¬ IsDeckShort t) (sym same) (enough_after s choice c.known_sets.ensures.sets member c.requires.enough))
    (subst (λ t. length (runouts_after t) ≤ RUNOUT_MAX) (sym same) few)
