use Rattle.std.proofs.Common.{◌≡◌, ℕ, ◌+◌, ◌<◌, ◌≤◌, refl, ap, ◌∙◌, arith, length, take}
use Rattle.std.proofs.lemmas.List.{length-take, length-map}
use Rattle.card_sets.specs.declared.games.Side.TheVariants.{High, Low}
use Rattle.showdown_tally.specs.Cells.{cell_at, cell_plus, no_runout, units_at}
use Rattle.showdown_tally.specs.CountShares.{given_cells, given_units}
use Rattle.showdown_tally.specs.Deals.{deal_of}
use Rattle.showdown_tally.proofs.PotsByCounts.{IsCounted, low_alone, pots_counted, pots_units_counted}
use Rattle.showdown_tally.proofs.CountSteps.{pots_more, pots_next, pots_units_more, pots_units_next}
use Rattle.showdown_tally.proofs.PotFacts.{eligible_pot, no_pot}
use Rattle.showdown_tally.proofs.counts.give_pots.Goals as goal

pub give_side-requires-clause-cells : goal.give_side-requires-clause-cells
give_side-requires-clause-cells c = λ h l.
    let table = c.args.table.now in
    c.loop-pot.invariant.cells c.loop-pot.pot h High (omega (arith, c.args.table.now.few_pots)) l ∙ pots_next table.known.game table.eligible c.args.counts.now table.known.count c.loop-pot.pot h High

pub give_side-requires-clause-units : goal.give_side-requires-clause-units
give_side-requires-clause-units c = λ h l.
    let table = c.args.table.now in
    let none : units_at c.loop-pot.tally c.loop-pot.pot h ≡ 0 = c.loop-pot.invariant.units c.loop-pot.pot h (omega (arith, c.args.table.now.few_pots)) l ∙ pots_units_next table.known.game table.eligible c.args.counts.now table.known.count c.loop-pot.pot h in
    omega arith

pub give_side-requires-in-loop-pot-clause-cells : goal.give_side-requires-in-loop-pot-clause-cells
give_side-requires-in-loop-pot-clause-cells c = λ h l.
    let table = c.args.table.now in
    let pot = c.loop-pot.pot in
    let none : cell_at c.loop-pot.tally c.loop-pot.pot h Low ≡ no_runout = c.loop-pot.invariant.cells c.loop-pot.pot h Low (omega (arith, c.args.table.now.few_pots)) l ∙ pots_next table.known.game table.eligible c.args.counts.now table.known.count pot h Low in
    c.give_side.ensures.grown.cells c.loop-pot.pot h Low (omega (arith, c.args.table.now.few_pots)) l
    ∙ ap (λ x. cell_plus (cell_at c.loop-pot.tally c.loop-pot.pot h Low) x) (low_alone table.known.game table.eligible c.args.counts.now table.known.count pot pot h)
    ∙ ap (λ x. cell_plus x no_runout) none

pub give_side-requires-in-loop-pot-clause-units : goal.give_side-requires-in-loop-pot-clause-units
give_side-requires-in-loop-pot-clause-units c = λ h l.
    let table = c.args.table.now in
    let none : units_at c.loop-pot.tally c.loop-pot.pot h ≡ 0 = c.loop-pot.invariant.units c.loop-pot.pot h (omega (arith, c.args.table.now.few_pots)) l ∙ pots_units_next table.known.game table.eligible c.args.counts.now table.known.count c.loop-pot.pot h in
    let small = c.give_side.ensures.small h l in
    omega arith

pub loop-pot-preserved : goal.loop-pot-preserved
loop-pot-preserved c =
    let table = c.args.table.now in
    let pot = c.loop-pot.pot in
    record {
      runouts = c.give_side-in-loop-pot.ensures.grown.runouts ∙ c.give_side.ensures.grown.runouts ∙ c.loop-pot.invariant.runouts;
      cells = λ p h s l m. c.give_side-in-loop-pot.ensures.grown.cells p h s l m
          ∙ ap (λ x. cell_plus x (given_cells c.args.table.now.known.game c.args.table.now.eligible c.args.counts.now c.args.table.now.known.count c.loop-pot.pot Low p h s)) (c.give_side.ensures.grown.cells p h s l m
          ∙ ap (λ x. cell_plus x (given_cells c.args.table.now.known.game c.args.table.now.eligible c.args.counts.now c.args.table.now.known.count c.loop-pot.pot High p h s)) (c.loop-pot.invariant.cells p h s l m))
          ∙ pots_more table.known.game table.eligible c.args.counts.now table.known.count pot p h s;
      units = λ p h l m. c.give_side-in-loop-pot.ensures.grown.units p h l m
          ∙ ap (λ x. x + given_units c.args.table.now.known.game c.args.table.now.eligible c.args.counts.now c.args.table.now.known.count c.loop-pot.pot Low p h) (c.give_side.ensures.grown.units p h l m
          ∙ ap (λ x. x + given_units c.args.table.now.known.game c.args.table.now.eligible c.args.counts.now c.args.table.now.known.count c.loop-pot.pot High p h) (c.loop-pot.invariant.units p h l m))
          ∙ pots_units_more table.known.game table.eligible c.args.counts.now table.known.count pot p h;
    }

pub returns : goal.returns
returns c = λ all size counts.
    let end : c.loop-pot.pot ≡ c.args.table.now.pots = (let l = c.loop-pot-test.false in let m = c.loop-pot.auto.pot-end in omega arith) in
    let taken : length (take c.args.table.now.pots c.args.table.now.eligible) ≡ c.args.table.now.pots = omega (arith, length-take c.args.table.now.pots c.args.table.now.eligible, c.ten_places.ensures.pots, c.args.table.now.few_pots) in
    let pots : length (deal_of c.args.table.now).pots ≡ c.args.table.now.pots = simp length-map taken in
    let each = λ (p : ℕ) (l : p < c.args.table.now.pots).
    let is : IsCounted (deal_of c.args.table.now) all c.args.table.now.eligible c.args.counts.now c.args.table.now.known.count p = record {
      few = c.args.table.now.known.few;
      hands = eligible_pot (deal_of c.args.table.now) c.args.table.now.pots c.args.table.now.eligible c.args.table.now.known.count p refl (omega arith) c.args.table.now.in_hands c.args.table.now.known.few;
      counts = λ side place has m. counts p place side (omega arith) has m;
    } in is in
    let none = λ (p : ℕ) (l : c.args.table.now.pots ≤ p). no_pot (deal_of c.args.table.now) c.args.table.now.pots c.args.table.now.eligible p refl (omega arith) in
    rw c.end_runouts.ensures (record {
      runouts = (let zero = c.loop-pot.invariant.runouts in omega arith);
      cells = λ p h s l m. c.loop-pot.invariant.cells p h s l m
          ∙ rw end (pots_counted (deal_of c.args.table.now) all c.args.table.now.eligible c.args.counts.now c.args.table.now.known.count c.args.table.now.pots each none p h s);
      units = λ p h l m. c.loop-pot.invariant.units p h l m
          ∙ rw end (pots_units_counted (deal_of c.args.table.now) all c.args.table.now.eligible c.args.counts.now c.args.table.now.known.count c.args.table.now.pots each none p h);
    })
