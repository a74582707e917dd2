use Rattle.std.proofs.Common.{◌≡◌, ℕ, ◌+◌, ◌≤◌, ◌^◌, subst, arith}
use Rattle.card_sets.specs.declared.games.Side.TheVariants.{High}
use Rattle.showdown_tally.specs.Cells.{cell_at, units_at}
use Rattle.showdown_tally.specs.declared.cells.Cell.{Cell}
use Rattle.range_lines.specs.Walks.{Column, hand_adds, hands_add}
use Rattle.hand_ranges.proofs.TallySums.{grows_more, hands_next, small_next, Narrow}
use Rattle.hand_ranges.proofs.sums.add_hands.Goals as goal

pub loop-hand-preserved : goal.loop-hand-preserved
loop-hand-preserved c =
    let cells : ℕ → Cell = λ h. cell_at c.args.tally.now 0 h High in
    let units : ℕ → ℕ = λ h. units_at c.args.tally.now 0 h in
    let hand = c.loop-hand.hand in
    let weight = c.args.weight in
    let narrow : Narrow c.cell-cell.result c.units-units.result = record { win = omega arith; tie = omega arith; lose = omega arith; given = omega arith } in
    record {
      grows = grows_more c.args.total.now c.loop-hand.total c.add_hand.new.total (hands_add hand weight cells units) (hand_adds hand weight c.cell-cell.result c.units-units.result) (hands_add (hand + 1) weight cells units)
          c.loop-hand.invariant.grows c.add_hand.ensures (hands_next hand weight cells units c.cell-cell.result c.units-units.result c.cell-cell.ensures c.units-units.ensures);
      small = small_next hand weight cells units c.cell-cell.result c.units-units.result c.requires.weight narrow c.cell-cell.ensures c.units-units.ensures c.loop-hand.invariant.small;
    }

pub returns-clause-small : goal.returns-clause-small
returns-clause-small c =
    let cells : ℕ → Cell = λ h. cell_at c.args.tally.now 0 h High in
    let units : ℕ → ℕ = λ h. units_at c.args.tally.now 0 h in
    let end : c.loop-hand.hand ≡ c.args.count = omega arith in
    subst (λ n. (column : Column) → hands_add n c.args.weight cells units column ≤ 2 ^ 96) end c.loop-hand.invariant.small
