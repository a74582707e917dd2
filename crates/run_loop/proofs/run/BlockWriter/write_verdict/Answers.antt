use Rattle.std.proofs.Common.{ap, ◌∙◌}
use Rattle.even_luck.specs.Equities.{is_asked}
use Rattle.run_loop.proofs.run.BlockWriter.write_verdict.Goals as goal

pub returns-clause-block : goal.returns-clause-block
returns-clause-block g c =
    rw (ap is_asked c.last-equity.ensures ∙ c.in_ok-ask_hand.ensures.asked, c.number_text-number.ensures) at c.write_hand.ensures.block
