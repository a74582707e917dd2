use Rattle.std.proofs.Common.{ap, ◌∙◌}
use Rattle.run_loop.specs.Plans.{cut_of, listed_in}
use Rattle.run_loop.specs.Units.{started}
use Rattle.run_loop.specs.declared.plans.Plan.TheVariants.{Reads}
use Rattle.run_loop.specs.declared.plans.Prints.{Prints}
use Rattle.run_loop.proofs.run.Run.write_report.Goals as goal

pub write_blocks-requires-clause-listed : goal.write_blocks-requires-clause-listed
write_blocks-requires-clause-listed g c = ap listed_in (c.requires.plan ∙ ap (λ (p : Prints). Reads p) c.in-Blocks.is)

pub write_blocks-requires-clause-start : goal.write_blocks-requires-clause-start
write_blocks-requires-clause-start g c = c.requires.start ∙ ap (λ (p : Prints). started (cut_of p)) c.in-Blocks.is

pub write_summed-requires-clause-plan : goal.write_summed-requires-clause-plan
write_summed-requires-clause-plan g c = c.requires.plan ∙ ap (λ (p : Prints). Reads p) c.in-Sums.is

pub write_summed-requires-clause-start : goal.write_summed-requires-clause-start
write_summed-requires-clause-start g c = c.requires.start ∙ ap (λ (p : Prints). started (cut_of p)) c.in-Sums.is
