use Rattle.std.proofs.Common.{◌≡◌, ◌+◌, ℕ, List, Some, ap, sym, ◌∙◌, inl, inr, subst}
use Rattle.std.specs.Prelude.{slice_get}
use Rattle.showdown_tally.specs.Deals.{deal_of}
use Rattle.showdown_tally.specs.Showdown.{Showdown}
use Rattle.board_runouts.specs.Fronts.{AreReady}
use Rattle.board_runouts.specs.declared.row.Row.{Row}
use Rattle.board_runouts.proofs.RowSets.{row_for, row_right, within}
use Rattle.runout_walk.proofs.CallerLemmas.{written}
use Rattle.board_runouts.proofs.rows.Rows.put.Goals as goal

pub returns-clause-ready : goal.returns-clause-ready
returns-clause-ready c =
    let deal : Showdown = deal_of c.args.start.now.spot.now.table in
    let base : ℕ = c.place_for-base.result in
    let was = c.place_for-base.new.self.rows in
    let e = c.fill_rows.ensures in
    let P : List Row → Type 0 = λ list. AreReady c.args.start.now list base in
    subst P (sym (written was.len c.fill_rows.new.rows was.items (e.places ∙ c.as_mut_slice-rows.ensures.len))) (record {
      rows = λ pot row lt at. row_for c.args.start.now pot row (row_right deal pot c.args.start.now.ranks c.args.start.now.least row (e.names pot row lt at) (e.rows pot row lt at)) (e.names pot row lt at);
      names = e.names;
      right = λ i row at. elim (within base c.args.start.now.spot.now.table.pots i) [
        | inl here ↦
            let there : slice_get c.fill_rows.new.rows (base + here.0) ≡ Some row = ap (slice_get c.fill_rows.new.rows) (sym here.2) ∙ at in
            row_right deal here.0 c.args.start.now.ranks c.args.start.now.least row (e.names here.0 row here.1 there) (e.rows here.0 row here.1 there)
        | inr away ↦ c.requires.right i row (c.place_for-base.ensures.others i row away (ap (λ rows. slice_get rows i) (sym c.as_mut_slice-rows.ensures.value) ∙ sym (e.away i away) ∙ at))
      ];
    })
