use Rattle.hand_cuts.specs.Units.{UnitLines}
use Rattle.std.specs.List.{filter_map}
use Rattle.run_loop.specs.Units.{unit_lines}
use Rattle.run_loop.specs.Histories.{verdict_of}
use Rattle.run_loop.proofs.SumOrder.{told_more}
use Rattle.run_loop.proofs.sums.MadeSumsHandSums.add_lines.Goals as goal

pub returns : goal.returns
unfolding verdict_of
returns g c = λ hands e.
    let hand : UnitLines = unit_lines c.args.text.now in
    rw (told_more verdict_of hands hand c.in_ok-audit.audit c.in_ok-audit.ensures.verdict) at (c.add.ensures (filter_map verdict_of hands) e)
