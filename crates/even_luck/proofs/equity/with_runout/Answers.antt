use Rattle.std.proofs.Common.{sym, ◌∙◌, arith}
use Rattle.even_luck.proofs.CountedFacts.{counted_none, counted_some}
use Rattle.showdown_tally.specs.Deals.{deal_of}
use Rattle.even_luck.proofs.equity.with_runout.Goals as goal

pub returns-then-runouts-eq0-clause-counted : goal.returns-then-runouts-eq0-clause-counted
returns-then-runouts-eq0-clause-counted c =
    sym (counted_none (deal_of c.args._table.now) c.args.tally.now c.requires (sym c.runouts.ensures ∙ c.if-runouts-eq0.true))

pub returns-clause-counted : goal.returns-clause-counted
returns-clause-counted c =
    let runouts = c.runouts.ensures in
    let some = c.if-runouts-eq0.false in
    sym (counted_some (deal_of c.args._table.now) c.args.tally.now c.requires (omega arith))
