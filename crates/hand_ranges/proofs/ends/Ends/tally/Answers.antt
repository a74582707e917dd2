use Rattle.std.proofs.Common.{◌/◌, ◌∙◌, ap, set, arith}
use Rattle.range_lines.specs.Walks.{number_in}
use Rattle.hand_ranges.proofs.EndSums.{tally_begins, tally_more}
use Rattle.hand_ranges.proofs.ends.Ends.tally.Goals as goal

pub loop-hand-init : goal.loop-hand-init
loop-hand-init c =
    tally_begins c.args.self.now c.no_tally-total.result c.args.count c.args.runouts _ _ c.no_tally-total.ensures
    (ap (λ n. c.args.self.now.choices / n) c.from.ensures) (ap (λ n. c.all.result / n) c.from-2.ensures ∙ ap (λ n. n / c.args.runouts) c.all.ensures)

pub loop-hand-preserved : goal.loop-hand-preserved
loop-hand-preserved c = λ column.
    let total = c.loop-hand.total in
    let hand = c.loop-hand.hand in
    ap (λ p. number_in (record total { cells = set total.cells p c.cell.result; units = set total.units p c.units.result }) column) c.from-place.ensures
    ∙ tally_more c.args.self.now total c.args.count hand c.args.runouts c.cell.result c.units.result (omega (arith, c.four_places.ensures.cells, c.loop-hand-test.true, c.requires.few)) (omega (arith, c.four_places.ensures.units, c.loop-hand-test.true, c.requires.few))
    c.loop-hand.invariant c.cell.ensures.win c.cell.ensures.tie c.cell.ensures.lose c.units.ensures column
