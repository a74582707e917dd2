use Rattle.std.proofs.Common.{◌+◌, ap, sym, ◌∙◌, arith}
use Rattle.std.specs.Prelude.{slice_get}
use Rattle.board_runouts.proofs.RowSets.{range-get}
use Rattle.board_runouts.proofs.rows.Rows.stretch.Goals as goal

pub returns-clause-rows : goal.returns-clause-rows
returns-clause-rows c = λ pot row at.
    let r = range-get c.deref.result.now c.args.base (c.args.base + c.from.result) pot row at in
    (let l = r.0 in let f = c.from.ensures in omega arith, ap (λ rows. slice_get rows (c.args.base + pot)) (sym c.deref.ensures.value) ∙ r.1)
