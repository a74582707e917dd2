use Rattle.std.proofs.Common.{◌≡◌, ◌+◌, ℕ, ap, ◌∙◌, arith, inl, inr, subst}
use Rattle.std.specs.Prelude.{slice_get}
use Rattle.std.proofs.lemmas.Bool.{cases_lt}
use Rattle.board_runouts.specs.KeptRows.{IsNamed}
use Rattle.board_runouts.proofs.rows.Rows.has_all.Goals as goal

pub loop-pot-preserved : goal.loop-pot-preserved
loop-pot-preserved c = record {
  place = c.loop-pot.invariant.place;
  names = λ pot row l at. elim (cases_lt pot c.loop-pot.pot) [
    | inl less ↦ c.loop-pot.invariant.names pot row less at
    | inr ge ↦
        let same : c.loop-pot.pot ≡ pot = omega arith in
        let N : ℕ → Type 0 = λ p. IsNamed row p c.args.ranks.now c.args.least in
        subst N same (c.has_one.ensures row c.if-not-has_one.false (ap (λ p. slice_get c.args.self.now.rows.items (c.args.base + p)) (c.from-in-loop-pot.ensures ∙ same) ∙ at))
  ];
}
