use Rattle.std.proofs.Common.{ℕ, List, ap, length, sym}
use Rattle.std.specs.Prelude.{Option}
use Rattle.hand_audit.specs.Settle.{parts_by}
use Rattle.hand_audit.proofs.lemmas.splits.Winners.{none_told, some_told}
use Rattle.hand_audit.proofs.dues.count_parts.Goals as goal

pub returns-in-None : goal.returns-in-None
returns-in-None c s units t = sym (ap (λ (o : Option (List ℕ)). length (parts_by o s.board units)) (none_told c.args.standings.now.second s.game s.second s.hands c.in-None.is t.second))

pub returns-in-Some : goal.returns-in-Some
returns-in-Some c s units t =
    let twice = some_told c.args.standings.now.second _ s.game s.second s.hands c.in-Some.is t.second in
    sym (ap (λ (o : Option (List ℕ)). length (parts_by o s.board units)) twice.is)
