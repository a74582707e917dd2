use Rattle.std.proofs.Common.{◌≡◌, ◌∙◌, subst}
use Rattle.std.proofs.lemmas.Option.{get_or_from_slice_get}
use Rattle.board_runouts.specs.KeptRows.{IsNamed}
use Rattle.board_runouts.specs.declared.row.Row.{Row}
use Rattle.board_runouts.proofs.rows.Rows.has_one.Goals as goal

pub returns : goal.returns
returns c = λ row is at.
    let there : c.index.result.now ≡ row = c.index.ensures ∙ get_or_from_slice_get c.args.self.now.rows.items c.args.place row c.index.result.now at in
    let e = c.is_for.ensures in
    let N : Row → Type 0 = λ r. IsNamed r c.args.pot c.args.ranks.now c.args.least in
    subst N there (record { pot_is = e.pot is; ranks_are = e.ranks is; least_is = e.least is })
