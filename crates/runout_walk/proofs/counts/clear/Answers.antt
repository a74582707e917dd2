use Rattle.std.proofs.Common.{inl, inr, length, refl, arith}
use Rattle.std.proofs.lemmas.Bool.{cases_lt}
use Rattle.std.proofs.lemmas.List.{get_or_past}
use Rattle.runout_walk.proofs.counts.clear.Goals as goal

pub returns-clause-zero : goal.returns-clause-zero
returns-clause-zero c = λ place. elim (cases_lt place (length c.args.row.now)) [
  | inl l ↦ c.fill.ensures.clones place 0 l refl
  | inr ge ↦ get_or_past c.fill.new.self place 0 (omega (arith, c.fill.ensures.len))
]
