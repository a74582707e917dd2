use Rattle.std.proofs.Common.{[], ◌∷◌, ◌++◌, ap, subst, sym, ◌∙◌}
use Rattle.std.specs.List.{list_any}
use Rattle.indexmap.proofs.CallerLemmas.{insert_entry-new}
use Rattle.player_totals.specs.Totals.{same_player}
use Rattle.player_totals.specs.TotalsSeen.{AreRows, player_of, same_row, seen_rows}
use Rattle.player_totals.proofs.NumberFacts.{absent_row, copy_under, rows_more, rows_pushed, seen_push, under}
use Rattle.player_totals.proofs.player_rows.Players.push.Goals as goal

pub invariant_of-self : goal.invariant_of-self
invariant_of-self g c = rows_more c.self.inside.numbers c.number_of.new.numbers c.self.inside.rows.entries c.number_of.ensures.numbers c.number_of.ensures.kept c.self.invariant

pub invariant_of-self-in_err-copy : goal.invariant_of-self-in_err-copy
invariant_of-self-in_err-copy g c = rows_more c.self.inside.numbers c.number_of.new.numbers c.self.inside.rows.entries c.number_of.ensures.numbers c.number_of.ensures.kept c.self.invariant

pub invariant_of-self-in_err-insert : goal.invariant_of-self-in_err-insert
invariant_of-self-in_err-insert g c =
    subst (AreRows c.number_of.new.numbers) (sym c.in_err-insert.ensures.err)
    (rows_more c.self.inside.numbers c.number_of.new.numbers c.self.inside.rows.entries c.number_of.ensures.numbers c.number_of.ensures.kept c.self.invariant)

pub invariant_of-self-2 : goal.invariant_of-self-2
invariant_of-self-2 g c =
    let key = c.args.key.now in
    let rows = c.self.inside.rows in
    let number = c.in_ok-number_of.field-0 in
    let before = rows_more c.self.inside.numbers c.number_of.new.numbers rows.entries c.number_of.ensures.numbers c.number_of.ensures.kept c.self.invariant in
    let none = absent_row c.number_of.new.numbers before.given key number c.in_ok-number_of.ensures.number rows.entries before.stand (ap (list_any (λ entry. same_player (player_of key) entry.0)) c.self.view_is ∙ c.requires) in
    let entries = c.in_ok-insert.ensures.entries ∙ insert_entry-new same_row rows (under key number) (record { key = c.in_ok-copy.field-0; sums = c.none.result }) none in
    rows_pushed c.number_of.new.numbers rows.entries _ c.insert.new.self.entries entries before
    (copy_under c.number_of.new.numbers key c.in_ok-copy.field-0 number c.none.result c.in_ok-copy.ensures c.in_ok-number_of.ensures.number) c.in_ok-insert.ensures.unique

pub returns-clause-added : goal.returns-clause-added
returns-clause-added g c =
    let key = c.args.key.now in
    let rows = c.self.inside.rows in
    let number = c.in_ok-number_of.field-0 in
    let before = rows_more c.self.inside.numbers c.number_of.new.numbers rows.entries c.number_of.ensures.numbers c.number_of.ensures.kept c.self.invariant in
    let none = absent_row c.number_of.new.numbers before.given key number c.in_ok-number_of.ensures.number rows.entries before.stand (ap (list_any (λ entry. same_player (player_of key) entry.0)) c.self.view_is ∙ c.requires) in
    let entries = c.in_ok-insert.ensures.entries ∙ insert_entry-new same_row rows (under key number) (record { key = c.in_ok-copy.field-0; sums = c.none.result }) none in
    ap seen_rows entries ∙ seen_push rows.entries (under key number, record { key = c.in_ok-copy.field-0; sums = c.none.result })
    ∙ (λ i. c.self.view_is i ++ (c.in_ok-copy.ensures i, c.none.ensures i) ∷ [])
