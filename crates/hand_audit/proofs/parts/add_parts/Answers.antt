use Rattle.std.proofs.Common.{ap, refl, inl, inr}
use Rattle.std.specs.Prelude.{slice_index_or}
use Rattle.hand_audit.proofs.lemmas.splits.SideShares.{twice_is}
use Rattle.hand_audit.proofs.lemmas.splits.Winners.{some_told, decides}
use Rattle.hand_audit.proofs.parts.add_parts.Goals as goal

pub returns-in_ok-add_part-in-Some-2-clause-parts : goal.returns-in_ok-add_part-in-Some-2-clause-parts
returns-in_ok-add_part-in-Some-2-clause-parts c s t d more =
    let twice = some_told c.args.standings.now.second c.in-Some.second s.game s.second s.hands c.in-Some.is t.second in
    twice_is s c.args.eligible c.args.units _ _ twice.board c.args.all.now.items c.add_part-in-Some.new.all.items c.add_part-in-Some-2.new.all.items twice.is
    (ap (λ xs. slice_index_or xs 0 0) c.halves.ensures) (ap (λ xs. slice_index_or xs 1 0) c.halves.ensures)
    (c.in_ok-add_part-in-Some.ensures.parts s s.board t (decides c.args.standings.now.board s s.board c.args.eligible (inl refl) t.board d) more)
    (c.in_ok-add_part-in-Some-2.ensures.parts s twice.board t (decides c.in-Some.second s twice.board c.args.eligible (inr twice.is) twice.tells d) more)
