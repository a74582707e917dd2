use Rattle.std.proofs.Common.{◌-◌, length, rules, sym, subst, ◌∙◌}
use Rattle.showdown_tally.specs.Tallies.{runouts_after}
use Rattle.job_blocks.specs.Blocks.{blocks_of}
use Rattle.worker_seats.specs.Joined.{HasTold}
use Rattle.worker_seats.proofs.LentSlices.{back}
use Rattle.worker_seats.proofs.running.work_seats.Goals as goal

pub returns-clause-told : goal.returns-clause-told
returns-clause-told g c = λ d low. subst (HasTold (g.N.Naming.all - 1) (blocks_of (length (runouts_after g.N.Naming.deal.state))) d)
    (sym (back c.args.seats.now.len c.work_all.new.seats c.args.seats.now.items (c.work_all.ensures.shared.count ∙ sym c.requires.started.count) (search rules)))
    (c.work_all.ensures.told d low)
