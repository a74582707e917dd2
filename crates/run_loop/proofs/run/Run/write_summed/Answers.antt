use Rattle.std.proofs.Common.{ap, ◌∙◌}
use Rattle.run_loop.specs.declared.plans.Plan.TheVariants.{Reads}
use Rattle.run_loop.specs.declared.plans.Prints.TheVariants.{Sums}
use Rattle.run_loop.proofs.PlanFacts.{plan_balance, plan_totals}
use Rattle.run_loop.proofs.TotalsFacts.{balance_block_alone, totals_block_alone}
use Rattle.run_loop.proofs.run.Run.write_summed.Goals as goal

pub write_sums-requires-clause-one : goal.write_sums-requires-clause-one
write_sums-requires-clause-one g c = totals_block_alone c.args.self.now.asked (plan_totals c.args.self.now.asked.mode (c.requires.plan ∙ ap (λ k. Reads (Sums k)) c.in-Totals.is))

pub write_sums-requires-in-Balance-clause-one : goal.write_sums-requires-in-Balance-clause-one
write_sums-requires-in-Balance-clause-one g c = balance_block_alone c.args.self.now.asked (plan_balance c.args.self.now.asked.mode (c.requires.plan ∙ ap (λ k. Reads (Sums k)) c.in-Balance.is))
