use Rattle.std.proofs.Common.{◌∷◌, ◌≡◌, ap, ◌∙◌, sym, subst, None}
use Rattle.hand_events.specs.declared.events.Event.{Event}
use Rattle.betting_replay.specs.TableAfter.{ReplayState, StandsFor, table_of}
use Rattle.betting_replay.specs.Counting.{begun, pointed, after}
use Rattle.betting_replay.specs.Faults.{verdict, fault_at}
use Rattle.betting_replay.proofs.lemmas.steps.PassedTests.{no_fault}
use Rattle.betting_replay.proofs.lemmas.steps.NextTable.{stands_after, seat_below}
use Rattle.betting_replay.proofs.lemmas.steps.RemarkSteps.{remark_stands, remark_kept}
use Rattle.betting_replay.proofs.replay.Replay.step.Goals as goal

-- a remark changes nothing
pub returns-in-Remark-clause-verdict : goal.returns-in-Remark-clause-verdict
returns-in-Remark-clause-verdict c g players h s = ap verdict (sym (ap (fault_at (table_of g players h)) c.in-Remark.is ∙ remark_stands (table_of g players h)))

pub returns-in-Remark-clause-ok : goal.returns-in-Remark-clause-ok
returns-in-Remark-clause-ok c g players h s =
    let P : Event → Type 0 = λ e. StandsFor c.args.self.now g players (e ∷ h) in
    subst P (sym c.in-Remark.is) (remark_kept c.args.self.now g players h s)

pub count-requires-clause-legal : goal.count-requires-clause-legal
count-requires-clause-legal c = no_fault _ _ (sym c.judge.ensures ∙ c.in_ok-judge.was)

pub returns-clause-ok : goal.returns-clause-ok
returns-clause-ok c g players h s =
    let legal : fault_at c.args.self.now c.args.e.now ≡ None = no_fault _ _ (sym c.judge.ensures ∙ c.in_ok-judge.was) in
    let is : c.keep_point.new.self ≡ after c.args.self.now c.args.e.now = c.keep_point.ensures ∙ ap pointed (c.begin_with.ensures ∙ ap (λ t. begun t c.args.e.now) c.count.ensures) in
    let P : ReplayState → Type 0 = λ t. StandsFor t g players (c.args.e.now ∷ h) in
    subst P (sym is) (stands_after c.args.self.now c.args.e.now g players h s (seat_below c.args.e.now c.requires.seats) legal)
