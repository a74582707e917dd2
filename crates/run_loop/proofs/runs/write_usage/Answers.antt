use Rattle.std.proofs.Common.{inl, inr, refl}
use Rattle.command_words.specs.Command.{usage_line}
use Rattle.run_loop.proofs.runs.write_usage.Goals as goal

pub returns-in-Ok : goal.returns-in-Ok
unfolding usage_line
returns-in-Ok g c = inl (refl, c.in-Ok.ensures.order)

pub returns-in-Err : goal.returns-in-Err
unfolding usage_line
returns-in-Err g c = inr (refl, _, c.in-Err.ensures.order)
