use Rattle.std.proofs.Common.{◌≡◌, ◌-◌, sym, ap, subst, ◌∙◌, length, true, false}
use Rattle.showdown_tally.specs.Tallies.{runouts_after}
use Rattle.job_blocks.specs.Blocks.{blocks_of}
use Rattle.worker_seats.specs.Sittings.{Sitting, IsSitting, IsShared, sitting_of}
use Rattle.worker_seats.proofs.SeenSeats.{sitting_worked, sitting_shared}
use Rattle.worker_seats.proofs.seats.Seats.work.Goals as goal

pub invariant_of-self : goal.invariant_of-self
invariant_of-self g c =
    let n = g.N.Naming.all - 1 in
    let blocks = blocks_of (length (runouts_after g.N.Naming.deal.state)) in
    let idle : c.self.inside.worked ≡ false = ap (λ (s : Sitting). s.worked) c.self.view_is ∙ c.requires.fresh in
    let before = subst (λ b. IsSitting n blocks g.N.Ledger.parts b c.self.inside.seats.items c.self.inside.spare) idle c.self.invariant in
    sitting_worked n blocks g.N.Ledger.parts c.self.inside.seats.items c.work_seats.new.seats.items c.self.inside.spare before c.work_seats.ensures.shared c.work_seats.ensures.sized c.work_seats.ensures.told

pub returns : goal.returns
returns g c =
    let n = g.N.Naming.all - 1 in
    let blocks = blocks_of (length (runouts_after g.N.Naming.deal.state)) in
    let idle : c.self.inside.worked ≡ false = ap (λ (s : Sitting). s.worked) c.self.view_is ∙ c.requires.fresh in
    let before = subst (λ b. IsSitting n blocks g.N.Ledger.parts b c.self.inside.seats.items c.self.inside.spare) idle c.self.invariant in
    subst (λ s. IsShared n blocks s (sitting_of true c.work_seats.new.seats.items)) (ap (λ b. sitting_of b c.self.inside.seats.items) (sym idle) ∙ c.self.view_is)
    (sitting_shared n blocks g.N.Ledger.parts c.self.inside.seats.items c.work_seats.new.seats.items c.self.inside.spare before c.work_seats.ensures.shared c.work_seats.ensures.sized c.work_seats.ensures.told)
