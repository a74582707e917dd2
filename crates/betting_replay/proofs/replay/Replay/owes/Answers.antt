use Rattle.std.proofs.Common.{◌≤◌, subst, ℕ}
use Rattle.std.specs.Prelude.{Option, Some, IfSome}
use Rattle.betting_replay.specs.Turns.{owes}
use Rattle.betting_replay.proofs.lemmas.turns.SeatWalk.{found_after, nobody_after, somebody_after}
use Rattle.betting_replay.proofs.replay.Replay.owes.Goals as goal

pub returns-in-Some-clause-nobody : goal.returns-in-Some-clause-nobody
returns-in-Some-clause-nobody c =
    let few : IfSome (Some c.in-Some.last) (λ a. a ≤ 10) = subst (λ (o : Option ℕ). IfSome o (λ a. a ≤ 10)) c.in-Some.is c.self.invariant.1 in
    nobody_after (owes c.args.self.now) (Some c.in-Some.last) c.or.result few (found_after (owes c.args.self.now) c.in-Some.last _ _ _ c.first_owing-in-Some.ensures.value c.first_owing-in-Some-2.ensures.value c.or.ensures)

pub returns-in-Some-clause-one : goal.returns-in-Some-clause-one
returns-in-Some-clause-one c = somebody_after (owes c.args.self.now) (Some c.in-Some.last) c.or.result (found_after (owes c.args.self.now) c.in-Some.last _ _ _ c.first_owing-in-Some.ensures.value c.first_owing-in-Some-2.ensures.value c.or.ensures)
