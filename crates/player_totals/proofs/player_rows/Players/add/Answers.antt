use Rattle.std.proofs.Common.{ap, subst, sym, ◌∙◌}
use Rattle.std.specs.List.{AllByRecursion, IsDistinct}
use Rattle.std.specs.Map.{keys_of, lookup, set_value}
use Rattle.player_totals.specs.Totals.{same_player}
use Rattle.player_totals.specs.SumsSeen.{AllAreOf, with_more}
use Rattle.player_totals.specs.TotalsSeen.{StandsUnder, player_of, same_row, seen_rows}
use Rattle.player_totals.proofs.NumberFacts.{distinct_seen, found_small, key_none, key_number, more_absent, more_found, unnumbered_more}
use Rattle.player_totals.proofs.player_rows.Players.add.Goals as goal

pub returns-in_default-clause-added : goal.returns-in_default-clause-added
returns-in_default-clause-added g c =
    let key = c.args.key.now in
    let none = key_none c.self.inside.numbers key c.in_default.ensures in
    sym c.self.view_is ∙ unnumbered_more c.self.inside.numbers key none g.S.Sums.plus c.self.inside.rows.entries c.args.more.now c.self.invariant.stand
    ∙ ap (λ seen. with_more g.S.Sums.plus seen (player_of key) c.args.more.now) c.self.view_is

pub returns-in_default-clause-distinct : goal.returns-in_default-clause-distinct
returns-in_default-clause-distinct g c =
    subst (λ seen. IsDistinct same_player (keys_of seen)) c.self.view_is (distinct_seen c.self.inside.numbers c.self.invariant.given c.self.inside.rows.entries c.self.invariant.stand c.self.invariant.distinct)

pub with-row-requires-clause-sums : goal.with-row-requires-clause-sums
with-row-requires-clause-sums g c =
    let key = c.args.key.now in
    let numbers = c.self.inside.numbers in
    let rows = c.self.inside.rows.entries in
    let (number, at, is) = key_number numbers key c.in-Some.under c.in-Some.ensures in
    let found = ap (λ under. lookup (same_row under) rows) (sym is) ∙ sym c.in-Some-get_mut.ensures.value in
    found_small numbers c.self.invariant.given key number at g.S.Sums.AreOf _ rows c.in-Some-get_mut.row.now (subst (AllAreOf g.S.Sums.AreOf _) (sym c.self.view_is) c.requires.sums) found

pub invariant_of-self : goal.invariant_of-self
invariant_of-self g c =
    let key = c.args.key.now in
    let numbers = c.self.inside.numbers in
    let rows = c.self.inside.rows.entries in
    let row = c.in-Some-get_mut.row.now in
    let (number, at, is) = key_number numbers key c.in-Some.under c.in-Some.ensures in
    let found = ap (λ under. lookup (same_row under) rows) (sym is) ∙ sym c.in-Some-get_mut.ensures.value in
    let more = more_found numbers c.self.invariant.given key number at g.S.Sums.plus rows row c.with-row.result c.args.more.now c.self.invariant.stand found c.with-row.ensures in
    let through = c.get_mut.follows.holds (record { key = row.key; sums = c.with-row.result }) in
    let entries = through.0 ∙ ap (λ under. set_value (same_row under) rows (record { key = row.key; sums = c.with-row.result })) is in
    record { given = c.self.invariant.given; stand = subst (AllByRecursion (StandsUnder numbers)) (sym entries) more.1; distinct = through.4 }

pub returns-in-Some-get_mut-clause-added : goal.returns-in-Some-get_mut-clause-added
returns-in-Some-get_mut-clause-added g c =
    let key = c.args.key.now in
    let numbers = c.self.inside.numbers in
    let rows = c.self.inside.rows.entries in
    let row = c.in-Some-get_mut.row.now in
    let (number, at, is) = key_number numbers key c.in-Some.under c.in-Some.ensures in
    let found = ap (λ under. lookup (same_row under) rows) (sym is) ∙ sym c.in-Some-get_mut.ensures.value in
    let more = more_found numbers c.self.invariant.given key number at g.S.Sums.plus rows row c.with-row.result c.args.more.now c.self.invariant.stand found c.with-row.ensures in
    let through = c.get_mut.follows.holds (record { key = row.key; sums = c.with-row.result }) in
    let entries = through.0 ∙ ap (λ under. set_value (same_row under) rows (record { key = row.key; sums = c.with-row.result })) is in
    ap seen_rows entries ∙ more.0 ∙ ap (λ seen. with_more g.S.Sums.plus seen (player_of key) c.args.more.now) c.self.view_is

pub returns-in-Some-get_mut-clause-distinct : goal.returns-in-Some-get_mut-clause-distinct
returns-in-Some-get_mut-clause-distinct g c =
    subst (λ seen. IsDistinct same_player (keys_of seen)) c.self.view_is (distinct_seen c.self.inside.numbers c.self.invariant.given c.self.inside.rows.entries c.self.invariant.stand c.self.invariant.distinct)

pub returns-in_default-get_mut-clause-added : goal.returns-in_default-get_mut-clause-added
returns-in_default-get_mut-clause-added g c =
    let key = c.args.key.now in
    let numbers = c.self.inside.numbers in
    let rows = c.self.inside.rows.entries in
    let (number, at, is) = key_number numbers key c.in-Some.under c.in-Some.ensures in
    let none = ap (λ under. lookup (same_row under) rows) (sym is) ∙ sym c.in_default-get_mut.ensures.value in
    rw c.get_mut.follows.holds-at-none (more_absent numbers c.self.invariant.given key number at g.S.Sums.plus rows c.args.more.now c.self.invariant.stand none)
    ∙ ap (λ seen. with_more g.S.Sums.plus seen (player_of key) c.args.more.now) c.self.view_is

pub returns-in_default-get_mut-clause-distinct : goal.returns-in_default-get_mut-clause-distinct
returns-in_default-get_mut-clause-distinct g c =
    subst (λ seen. IsDistinct same_player (keys_of seen)) c.self.view_is (distinct_seen c.self.inside.numbers c.self.invariant.given c.self.inside.rows.entries c.self.invariant.stand c.self.invariant.distinct)
