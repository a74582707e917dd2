use Rattle.std.proofs.Common.{map, take, arith}
use Rattle.card_sets.specs.PlayerSets.{hands_of}
use Rattle.card_sets.specs.State.{state_of}
use Rattle.runout_ranges.specs.Runouts.{Begins, Follows, Ends, HasMember}
use Rattle.showdown_tally.specs.Deals.{deal_of}
use Rattle.street_walk.proofs.AfterStreet.{of_next, of_choices}
use Rattle.street_walk.proofs.SumWalk.{not_less, street_begins, street_cells_fit, street_units_fit, street_runouts_fit, street_goes_on, street_ends, street_divided}
use Rattle.street_walk.proofs.sums.sum_choices.Goals as goal

pub loop-choice-init : goal.loop-choice-init
loop-choice-init g c = record {
  walk = street_begins (deal_of c.args.table.now) c.first_runout.new.out c.zero-total.result
      (of_next (λ all. Begins all c.first_runout.new.out) (state_of c.args.table.now.known) c.args.step.now c.requires.next c.first_runout.ensures)
      c.zero-total.ensures.runouts c.zero-total.ensures.cells c.zero-total.ensures.units;
  steps = omega (arith, c.zero-total.ensures.runouts);
}

pub count_after-requires-clause-choice : goal.count_after-requires-clause-choice
count_after-requires-clause-choice g c =
    let walk = c.loop-choice.invariant.walk in
    of_choices (λ all. HasMember all c.loop-choice.choice) (state_of c.args.table.now.known) c.args.step.now c.requires.next (walk.done, walk.todo, walk.split)

pub add-requires-clause-runouts : goal.add-requires-clause-runouts
add-requires-clause-runouts g c =
    let fit = street_runouts_fit (deal_of c.args.table.now) c.loop-choice.choice c.loop-choice.total c.count_after.new.tally c.loop-choice.invariant.walk (c.law_streets_add_up.ensures (map hands_of (take c.args.table.now.pots c.args.table.now.eligible))) (not_less _ _ c.requires.few) c.count_after.ensures.counts in
    omega (arith, fit)

pub add-requires-clause-cells : goal.add-requires-clause-cells
add-requires-clause-cells g c =
    street_cells_fit (deal_of c.args.table.now) c.loop-choice.choice c.loop-choice.total c.count_after.new.tally c.loop-choice.invariant.walk (c.law_streets_add_up.ensures (map hands_of (take c.args.table.now.pots c.args.table.now.eligible))) (not_less _ _ c.requires.few) c.count_after.ensures.counts

pub add-requires-clause-units : goal.add-requires-clause-units
add-requires-clause-units g c =
    street_units_fit (deal_of c.args.table.now) c.loop-choice.choice c.loop-choice.total c.count_after.new.tally c.loop-choice.invariant.walk (c.law_streets_add_up.ensures (map hands_of (take c.args.table.now.pots c.args.table.now.eligible))) (not_less _ _ c.requires.few) c.count_after.ensures.counts

pub loop-choice-preserved : goal.loop-choice-preserved
loop-choice-preserved g c = record {
  walk = street_goes_on (deal_of c.args.table.now) c.loop-choice.choice c.advance.new.r c.loop-choice.total c.count_after.new.tally c.add.new.self c.loop-choice.invariant.walk c.count_after.ensures.counts c.add.ensures
      (of_next (λ all. Follows all c.loop-choice.choice c.advance.new.r) (state_of c.args.table.now.known) c.args.step.now c.requires.next c.if-not-advance.ensures);
  steps = omega (arith, c.count_after.ensures.steps, c.add.ensures.runouts, c.loop-choice.invariant.steps);
}

pub loop-choice-smaller : goal.loop-choice-smaller
loop-choice-smaller g c =
    let fit = street_runouts_fit (deal_of c.args.table.now) c.loop-choice.choice c.loop-choice.total c.count_after.new.tally c.loop-choice.invariant.walk (c.law_streets_add_up.ensures (map hands_of (take c.args.table.now.pots c.args.table.now.eligible))) (not_less _ _ c.requires.few) c.count_after.ensures.counts in
    omega (arith, fit, c.add.ensures.runouts, c.count_after.ensures.some)

pub returns-then-not-advance-clause-sum : goal.returns-then-not-advance-clause-sum
returns-then-not-advance-clause-sum g c =
    street_ends (deal_of c.args.table.now) c.loop-choice.choice c.loop-choice.total c.count_after.new.tally c.add.new.self c.loop-choice.invariant.walk c.count_after.ensures.counts c.add.ensures
    (of_next (λ all. Ends all c.loop-choice.choice) (state_of c.args.table.now.known) c.args.step.now c.requires.next c.if-not-advance.ensures.0)

pub returns-then-not-advance-clause-divided : goal.returns-then-not-advance-clause-divided
returns-then-not-advance-clause-divided g c =
    street_divided (deal_of c.args.table.now) c.add.new.self (c.law_streets_add_up.ensures (map hands_of (take c.args.table.now.pots c.args.table.now.eligible)))
    (street_ends (deal_of c.args.table.now) c.loop-choice.choice c.loop-choice.total c.count_after.new.tally c.add.new.self c.loop-choice.invariant.walk c.count_after.ensures.counts c.add.ensures
    (of_next (λ all. Ends all c.loop-choice.choice) (state_of c.args.table.now.known) c.args.step.now c.requires.next c.if-not-advance.ensures.0))

pub advance-requires : goal.advance-requires
advance-requires g c =
    let walk = c.loop-choice.invariant.walk in
    of_choices (λ all. HasMember all c.loop-choice.choice) (state_of c.args.table.now.known) c.args.step.now c.requires.next (walk.done, walk.todo, walk.split)

pub returns-then-not-advance-clause-steps : goal.returns-then-not-advance-clause-steps
returns-then-not-advance-clause-steps g c = omega (arith, c.count_after.ensures.steps, c.add.ensures.runouts, c.loop-choice.invariant.steps)
