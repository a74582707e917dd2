use Rattle.std.proofs.Common.{◌≡◌, ◌+◌, ◌*◌, ◌≤◌, true, false, sym, ap, ◌∙◌, arith, add-zero}
use Rattle.showdown_tally.specs.Cells.{cell_at, cell_plus, units_at}
use Rattle.showdown_tally.specs.CountShares.{units_of_set}
use Rattle.showdown_tally.specs.SetShares.{cell_times, set_cell}
use Rattle.showdown_tally.proofs.CountSteps.{hand_grown, hand_passed, never_cells, never_units, times_fit, times_next, times_units_next, units_times}
use Rattle.showdown_tally.proofs.GrownSums.{Grows-none}
use Rattle.showdown_tally.proofs.MaskWinners.{plus_none}
use Rattle.showdown_tally.proofs.Winners.{is_set}
use Rattle.showdown_tally.proofs.counts.give_set.Goals.{then-has, else-has}
use Rattle.showdown_tally.proofs.counts.give_set.Goals as goal

pub returns-then-times-eq0 : goal.returns-then-times-eq0
returns-then-times-eq0 c =
    let stake = c.args.stake.now in
    Grows-none c.args.tally.now _ _
    (λ p i s l m. never_cells stake.pot stake.side stake.hands stake.count c.args.set c.args.times stake.count p i s c.if-times-eq0.true)
    (λ p i l m. never_units stake.pot stake.hands stake.count c.args.halved c.args.set c.args.times stake.count p i c.if-times-eq0.true)

pub overflow_mul-units : goal.overflow_mul-units
overflow_mul-units c =
    let few : c.units_in.result * c.args.times ≤ 21646635171840 = units_times c.units_in.result c.args.times c.units_in.ensures.bound (omega arith) in
    omega arith

pub add_cell-requires-clause-fits : goal.add_cell-requires-clause-fits
add_cell-requires-clause-fits c =
    let stake = c.args.stake.now in
    let hand = c.loop-hand.hand in
    let same : cell_at c.loop-hand.tally c.args.stake.now.pot c.loop-hand.hand c.args.stake.now.side ≡ cell_at c.args.tally.now c.args.stake.now.pot c.loop-hand.hand c.args.stake.now.side =
    c.loop-hand.invariant.cells stake.pot hand stake.side c.requires.pot (omega arith)
    ∙ ap (λ x. cell_plus (cell_at c.args.tally.now c.args.stake.now.pot c.loop-hand.hand c.args.stake.now.side) x) (times_next stake.pot stake.side stake.hands stake.count c.args.set c.args.times hand stake.pot stake.side) ∙ plus_none _ in
    rw (same, c.times_of-cell.ensures) (times_fit c.ending.result c.args.times (cell_at c.args.tally.now c.args.stake.now.pot c.loop-hand.hand c.args.stake.now.side) c.requires.times (c.requires.cells hand (omega arith)))

pub give-requires-clause-fits : goal.give-requires-clause-fits
give-requires-clause-fits c =
    let stake = c.args.stake.now in
    let hand = c.loop-hand.hand in
    let before : units_at c.loop-hand.tally c.args.stake.now.pot c.loop-hand.hand ≡ units_at c.args.tally.now c.args.stake.now.pot c.loop-hand.hand =
    c.loop-hand.invariant.units stake.pot hand c.requires.pot (omega arith)
    ∙ ap (λ x. units_at c.args.tally.now c.args.stake.now.pot c.loop-hand.hand + x) (times_units_next stake.pot stake.hands stake.count c.args.halved c.args.set c.args.times hand stake.pot) ∙ add-zero _ in
    let same : units_at c.add_cell.new.self c.args.stake.now.pot c.loop-hand.hand ≡ units_at c.loop-hand.tally c.args.stake.now.pot c.loop-hand.hand =
    c.add_cell.ensures.units stake.pot hand c.requires.pot (omega arith) ∙ add-zero _ in
    let few : c.units_in.result * c.args.times ≤ 21646635171840 = units_times c.units_in.result c.args.times c.units_in.ensures.bound (omega arith) in
    let room = c.requires.units hand (omega arith) in
    omega arith

pub loop-hand-preserved : goal.loop-hand-preserved
loop-hand-preserved c =
    let stake = c.args.stake.now in
    let hand = c.loop-hand.hand in
    elim c.if-has.branch [
      | then-has w ↦
          let bit : is_set c.args.stake.now.hands c.loop-hand.hand ≡ true = sym c.has.ensures ∙ w.if-has.true in
          let cell : w.times_of-cell.result ≡ cell_times c.args.times (set_cell c.args.stake.now.count c.loop-hand.hand c.args.set) = w.times_of-cell.ensures ∙ ap (cell_times c.args.times) w.ending.ensures in
          let given : w.units_in.result * c.args.times ≡ units_of_set c.args.halved c.args.stake.now.count c.loop-hand.hand c.args.set * c.args.times = ap (λ u. u * c.args.times) w.units_in.ensures.value in
          let grown = hand_grown c.args.tally.now c.loop-hand.tally w.add_cell.new.self w.give.new.self stake.pot stake.side stake.hands stake.count c.args.halved c.args.set c.args.times hand w.times_of-cell.result (w.units_in.result * c.args.times) bit cell given
          c.loop-hand.invariant w.add_cell.ensures w.give.ensures in
          rw w.tally-is grown
      | else-has w ↦
          let bit : is_set c.args.stake.now.hands c.loop-hand.hand ≡ false = sym c.has.ensures ∙ w.if-has.false in
          rw w.tally-is (hand_passed c.args.tally.now c.loop-hand.tally stake.pot stake.side stake.hands stake.count c.args.halved c.args.set c.args.times hand bit c.loop-hand.invariant)
    ]
