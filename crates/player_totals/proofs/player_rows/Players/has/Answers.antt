use Rattle.std.proofs.Common.{is_some, sym, ap, ◌∙◌}
use Rattle.std.specs.List.{list_any}
use Rattle.std.specs.Map.{lookup}
use Rattle.player_totals.specs.Totals.{same_player}
use Rattle.player_totals.specs.TotalsSeen.{player_of, same_row}
use Rattle.player_totals.proofs.NumberFacts.{found_any, key_none, key_number, unnumbered_absent}
use Rattle.player_totals.proofs.player_rows.Players.has.Goals as goal

pub returns-in-Some : goal.returns-in-Some
returns-in-Some g c =
    let key = c.args.key.now in
    let rows = c.self.inside.rows.entries in
    let (number, at, is) = key_number c.self.inside.numbers key c.in-Some.under c.in-Some.ensures in
    c.contains_key.ensures ∙ ap (λ under. is_some (lookup (same_row under) rows)) is
    ∙ found_any c.self.inside.numbers c.self.invariant.given key number at rows c.self.invariant.stand
    ∙ ap (list_any (λ entry. same_player (player_of key) entry.0)) c.self.view_is

pub returns-in-None : goal.returns-in-None
returns-in-None g c =
    let key = c.args.key.now in
    sym (unnumbered_absent c.self.inside.numbers key (key_none c.self.inside.numbers key c.in-None.ensures) c.self.inside.rows.entries c.self.invariant.stand)
    ∙ ap (list_any (λ entry. same_player (player_of key) entry.0)) c.self.view_is
