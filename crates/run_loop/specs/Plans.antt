-- The table of modes: each mode has a plan, which says what a run in that mode does.
use Rattle.std.specs.Prelude.{Option, Some, None}
use Rattle.hand_cuts.specs.declared.units.CutKind.{CutKind}
use Rattle.hand_cuts.specs.declared.units.CutKind.TheVariants as cut
use Rattle.command_words.specs.declared.command.Mode.{Mode}
use Rattle.command_words.specs.declared.command.Mode.TheVariants as mode
use Rattle.run_loop.specs.declared.block_kinds.SpotKind.TheVariants.{Cards, Ranges}
use Rattle.run_loop.specs.declared.block_kinds.Detail.TheVariants.{Verdict, AllIn, LaterStreets, Results, Settlement}
use Rattle.run_loop.specs.declared.block_kinds.BlockKind.{BlockKind}
use Rattle.run_loop.specs.declared.block_kinds.BlockKind.TheVariants.{Spots, Hands}
use Rattle.run_loop.specs.declared.plans.SumKind.TheVariants as sum
use Rattle.run_loop.specs.declared.plans.Prints.{Prints}
use Rattle.run_loop.specs.declared.plans.Prints.TheVariants.{Blocks, Sums}
use Rattle.run_loop.specs.declared.plans.Plan.{Plan}
use Rattle.run_loop.specs.declared.plans.Plan.TheVariants.{Makes, Reads}

-- the plan of a mode
abbrev pub plan_of : Mode → Plan
plan_of mode.Spots = Reads (Blocks (Spots Cards))
plan_of mode.Ranges = Reads (Blocks (Spots Ranges))
plan_of mode.Check = Reads (Blocks (Hands Verdict))
plan_of mode.Audit = Reads (Blocks (Hands AllIn))
plan_of mode.Streets = Reads (Blocks (Hands LaterStreets))
plan_of mode.Results = Reads (Blocks (Hands Results))
plan_of mode.Settle = Reads (Blocks (Hands Settlement))
plan_of mode.Totals = Reads (Sums sum.Totals)
plan_of mode.Balance = Reads (Sums sum.Balance)
plan_of mode.Made = Makes

-- what the input is cut into for blocks of a kind
abbrev pub listed_kind : BlockKind → CutKind
listed_kind (Spots holding) = cut.Lines
listed_kind (Hands told) = cut.Hands

-- what the input is cut into for what is printed
abbrev pub cut_of : Prints → CutKind
cut_of (Blocks listed) = listed_kind listed
cut_of (Sums kind) = cut.Hands

-- the kind of the blocks that a plan prints; none if it prints one block for all hands
abbrev pub listed_in : Plan → Option BlockKind
listed_in (Reads (Blocks listed)) = Some listed
listed_in (Reads (Sums kind)) = None
listed_in Makes = None

-- what the input is cut into by a plan
abbrev pub cut_in : Plan → CutKind
cut_in (Reads prints) = cut_of prints
cut_in Makes = cut.Hands
