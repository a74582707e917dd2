use Rattle.std.proofs.Common.{◌-◌, ap, subst, sym, ◌∙◌, length}
use Rattle.showdown_tally.specs.Showdown.{Showdown}
use Rattle.showdown_tally.specs.Tallies.{runouts_after}
use Rattle.job_blocks.specs.Blocks.{blocks_of}
use Rattle.worker_seats.specs.Joined.{IsJoinable, HasAll, HasTold}
use Rattle.worker_seats.proofs.JoinedPasses.{worked_joinable, shared}
use Rattle.worker_seats.proofs.running.work_all.Goals as goal

pub join_all-requires-clause-joinable : goal.join_all-requires-clause-joinable
join_all-requires-clause-joinable g c =
    let blocks = c.blocks-2.ensures ∙ ap (λ (d : Showdown). blocks_of (length (runouts_after d.state))) c.requires.named in
    λ d low. subst (λ b. IsJoinable (g.N.Naming.all - 1) b d c.run_seats.new.seats) (sym blocks)
    (worked_joinable (g.N.Naming.all - 1) (blocks_of (length (runouts_after g.N.Naming.deal.state))) c.args.seats.now c.run_seats.new.seats c.requires.started c.run_seats.ensures.worked c.run_seats.ensures.count d low)

pub returns : goal.returns
returns g c =
    let blocks = c.blocks-2.ensures ∙ ap (λ (d : Showdown). blocks_of (length (runouts_after d.state))) c.requires.named in
    record {
      shared = shared (g.N.Naming.all - 1) (blocks_of (length (runouts_after g.N.Naming.deal.state))) c.args.seats.now c.run_seats.new.seats c.join_all.new.seats c.requires.started c.run_seats.ensures.worked c.run_seats.ensures.count c.join_all.ensures.same
          (λ d low. subst (λ b. HasAll (g.N.Naming.all - 1) b d c.join_all.new.seats) blocks (c.join_all.ensures.all d low));
      told = λ d low. subst (λ b. HasTold (g.N.Naming.all - 1) b d c.join_all.new.seats) blocks (c.join_all.ensures.told d low);
      sized = c.join_all.ensures.sized;
    }
