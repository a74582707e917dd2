use Rattle.std.proofs.Common.{◌≡◌, ◌++◌, subst}
use Rattle.std.specs.Prelude.{OnOk}
use Rattle.player_totals.specs.Totals.{RunTotals, run_block}
use Rattle.player_totals.proofs.totals.Totals.write.Goals as goal

pub returns-clause-block : goal.returns-clause-block
unfolding run_block
returns-clause-block c =
    subst (λ (t : RunTotals). OnOk c.write_sums.result (c.write_sums.new.out.items ≡ c.args.out.now.items ++ run_block c.args.form t)) c.self.view_is c.write_sums.ensures.lines
