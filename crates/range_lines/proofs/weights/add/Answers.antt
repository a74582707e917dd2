use Rattle.std.proofs.Common.{arith}
use Rattle.range_lines.proofs.WeightTables.{none_before, none_past}
use Rattle.range_lines.proofs.weights.add.Goals as goal

pub loop-number-init : goal.loop-number-init
loop-number-init c = record { table = c.requires.table; added = none_before c.args.entry.now c.args.cells.now _ c.first_low-number.ensures }

pub returns-clause-added : goal.returns-clause-added
returns-clause-added c is =
    none_past c.args.entry.now c.args.cells.now c.loop-number.cells c.loop-number.number c.loop-number.invariant.added
    (λ low past deck. c.end_low-number-end.ensures.past low (omega (arith, past, c.loop-number-test.false)) deck)
