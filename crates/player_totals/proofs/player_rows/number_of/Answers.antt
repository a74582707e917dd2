use Rattle.std.proofs.Common.{Some, sym, subst}
use Rattle.std.specs.BTreeMap.{Updates}
use Rattle.player_totals.specs.TotalsSeen.{name_cmp}
use Rattle.player_totals.proofs.NumberFacts.{number_kept, numbers_more}
use Rattle.player_totals.proofs.player_rows.number_of.Goals as goal

pub returns-clause-kept : goal.returns-clause-kept
returns-clause-kept c =
    let updates = subst (λ number. Updates name_cmp c.args.numbers.now c.insert.new.self c.in_ok-copy.field-0 (Some number)) c.len-number.ensures.len c.in_ok-insert.ensures.updates in
    number_kept c.args.numbers.now c.insert.new.self c.args.name.now c.in_ok-copy.field-0 c.in_ok-copy.ensures c.requires (sym c.in_default.ensures.value) updates

pub returns-clause-numbers : goal.returns-clause-numbers
returns-clause-numbers c =
    let updates = subst (λ number. Updates name_cmp c.args.numbers.now c.insert.new.self c.in_ok-copy.field-0 (Some number)) c.len-number.ensures.len c.in_ok-insert.ensures.updates in
    numbers_more c.args.numbers.now c.insert.new.self c.args.name.now c.in_ok-copy.field-0 c.in_ok-copy.ensures c.requires (sym c.in_default.ensures.value) updates
    c.in_ok-insert.field-0 c.in_ok-insert.ensures.old c.in_ok-insert.ensures.len
