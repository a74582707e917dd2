-- Facts on a mode that follow from its plan.
use Rattle.std.proofs.Common.{◌≡◌, refl, true, false}
use Rattle.command_words.specs.Command.{reads_input}
use Rattle.command_words.specs.declared.command.Mode.{Mode}
use Rattle.command_words.specs.declared.command.Mode.TheVariants as mode
use Rattle.run_loop.specs.Plans.{plan_of}
use Rattle.run_loop.specs.declared.plans.Plan.TheVariants.{Makes, Reads}
use Rattle.run_loop.specs.declared.plans.Prints.{Prints}
use Rattle.run_loop.specs.declared.plans.Prints.TheVariants.{Sums}
use Rattle.run_loop.specs.declared.plans.SumKind.TheVariants as sum

pub plan_reads : (m : Mode) (prints : Prints) → plan_of m ≡ Reads prints → reads_input m ≡ true
plan_reads mode.Spots prints e = refl
plan_reads mode.Ranges prints e = refl
plan_reads mode.Check prints e = refl
plan_reads mode.Audit prints e = refl
plan_reads mode.Streets prints e = refl
plan_reads mode.Results prints e = refl
plan_reads mode.Settle prints e = refl
plan_reads mode.Totals prints e = refl
plan_reads mode.Balance prints e = refl
plan_reads mode.Made prints e = cc

pub plan_makes : (m : Mode) → plan_of m ≡ Makes → reads_input m ≡ false
plan_makes mode.Spots e = cc
plan_makes mode.Ranges e = cc
plan_makes mode.Check e = cc
plan_makes mode.Audit e = cc
plan_makes mode.Streets e = cc
plan_makes mode.Results e = cc
plan_makes mode.Settle e = cc
plan_makes mode.Totals e = cc
plan_makes mode.Balance e = cc
plan_makes mode.Made e = refl

pub plan_totals : (m : Mode) → plan_of m ≡ Reads (Sums sum.Totals) → m ≡ mode.Totals
plan_totals mode.Spots e = cc
plan_totals mode.Ranges e = cc
plan_totals mode.Check e = cc
plan_totals mode.Audit e = cc
plan_totals mode.Streets e = cc
plan_totals mode.Results e = cc
plan_totals mode.Settle e = cc
plan_totals mode.Totals e = refl
plan_totals mode.Balance e = cc
plan_totals mode.Made e = cc

pub plan_balance : (m : Mode) → plan_of m ≡ Reads (Sums sum.Balance) → m ≡ mode.Balance
plan_balance mode.Spots e = cc
plan_balance mode.Ranges e = cc
plan_balance mode.Check e = cc
plan_balance mode.Audit e = cc
plan_balance mode.Streets e = cc
plan_balance mode.Results e = cc
plan_balance mode.Settle e = cc
plan_balance mode.Totals e = cc
plan_balance mode.Balance e = refl
plan_balance mode.Made e = cc
