use Rattle.std.proofs.Common.{◌++◌, append-nil, sym, ap, ◌∙◌}
use Rattle.run_loop.proofs.HandFacts.{streets_none, streets_some}
use Rattle.run_loop.proofs.run.BlockWriter.write_streets.Goals as goal

pub returns-then-not-has_counted : goal.returns-then-not-has_counted
returns-then-not-has_counted g c =
    let items = c.args.self.now.block.items in
    let none = streets_none c.args.form c.args.audit.now c.args.states.now (sym c.has_counted.ensures ∙ c.if-not-has_counted.true) in
    sym (append-nil items) ∙ ap (λ more. items ++ more) none

pub returns : goal.returns
returns g c =
    let each = streets_some c.args.form c.args.audit.now c.args.states.now (sym c.has_counted.ensures ∙ c.if-not-has_counted.false) in
    rw (← each) c.write_states.ensures
