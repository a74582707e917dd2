use Rattle.std.proofs.Common.{◌≡◌, ◌+◌, ◌-◌, ◌<◌, ℕ, length, arith, inl, inr}
use Rattle.std.proofs.lemmas.Bool.{cases_lt}
use Rattle.std.proofs.lemmas.Option.{slice_get_within}
use Rattle.board_runouts.proofs.rows.Rows.place_for.Goals as goal

pub returns-clause-others : goal.returns-clause-others
returns-clause-others c = λ i row away at.
    let was = c.make_room.new.self.rows in
    let base : ℕ = c.len-base.result in
    let base_is : base ≡ length was.items = omega (arith, c.len-base.ensures, was.ok.0) in
    let inside : i < base + c.args.pots = omega (arith, slice_get_within c.add_rows.new.self.rows.items i row at, c.add_rows.ensures.count, base_is) in
    elim (cases_lt i base) [
      | inl before ↦ c.make_room.ensures.kept i row (c.add_rows.ensures.kept i row (omega (arith, before, base_is)) at)
      | inr ge ↦ absurd (away (i - base) (omega (arith, ge, inside)) (omega (arith, ge)))
    ]
