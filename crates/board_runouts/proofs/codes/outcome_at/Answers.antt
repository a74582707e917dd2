use Rattle.std.proofs.Common.{◌≡◌, ◌+◌, ◌*◌, ◌<◌, ℕ, length, refl, sym, ap, ◌∙◌, arith, Some, inl, inr, subst, set}
use Rattle.std.specs.Prelude.{slice_get, slice_index}
use Rattle.std.proofs.Math.ListN.{length-set}
use Rattle.std.proofs.lemmas.Bool.{cases_lt}
use Rattle.std.proofs.lemmas.Option.{slice_get-get_or}
use Rattle.board_runouts.specs.Fields.{end_of}
use Rattle.board_runouts.specs.KeptRows.{row_place}
use Rattle.board_runouts.specs.declared.row.Row.{Row}
use Rattle.board_runouts.proofs.CodeSets.{end_kept, end_put, few_put}
use Rattle.board_runouts.proofs.codes.outcome_at.Goals as goal

pub loop-pot-preserved : goal.loop-pot-preserved
loop-pot-preserved c =
    let was = c.loop-pot.invariant in
    let pot : ℕ = c.loop-pot.pot in
    let row : Row = c.index-rows-pot.result in
    let main : ℕ = slice_index row.mains c.args.place in
    let low : ℕ = slice_index row.lows c.args.place in
    let room : 2 * pot + 1 < length c.loop-pot.outcome = (let p = was.places in let n = c.requires.pots in let t = c.loop-pot-test.true in omega arith) in
    let found : slice_get c.args.rows.now pot ≡ Some c.index-rows-pot.result = slice_get-get_or c.args.rows.now pot c.index-rows-pot.result c.loop-pot-test.true ∙ ap Some (sym c.index-rows-pot.is) in
    record {
      done = λ p side other lt at. elim (cases_lt p pot) [
        | inl under ↦ end_kept c.loop-pot.outcome pot p (2 * pot) (2 * pot + 1) main low side refl refl under ∙ was.done p side other under at
        | inr ge ↦
            let same : pot ≡ p = omega arith in
            let it : row ≡ other = row_is row other (sym found ∙ ap (slice_get c.args.rows.now) same ∙ at) in
            let P : ℕ → Type 0 = λ x. end_of x side (set (set c.loop-pot.outcome (2 * pot) main) (2 * pot + 1) low) ≡ row_place row side c.args.place in
            let here : P pot = end_put c.loop-pot.outcome pot (2 * pot) (2 * pot + 1) row c.args.place side refl refl room in
            subst P same here ∙ ap (λ r. row_place r side c.args.place) it
      ];
      few = few_put 2048 (set c.loop-pot.outcome (2 * pot) main) (2 * pot + 1) low (few_put 2048 c.loop-pot.outcome (2 * pot) main was.few (row.few_mains c.args.place)) (let l = row.few_lows c.args.place in omega arith);
      places = rw (length-set, length-set) was.places;
    }
  where
    row_is : (a b : Row) → Some a ≡ Some b → a ≡ b
    row_is a b e = cc
