use Rattle.std.proofs.Common.{◌≡◌, ◌++◌, subst}
use Rattle.std.specs.Prelude.{OnOk}
use Rattle.player_totals.specs.Balance.{RunBalance, balance_lines}
use Rattle.player_totals.proofs.balance.Balance.write.Goals as goal

pub returns-clause-block : goal.returns-clause-block
unfolding balance_lines
returns-clause-block c =
    subst (λ (t : RunBalance). OnOk c.write_sums.result (c.write_sums.new.out.items ≡ c.args.out.now.items ++ balance_lines c.args.form t)) c.self.view_is c.write_sums.ensures.lines
