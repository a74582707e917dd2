use Rattle.std.proofs.Common.{rules}
use Rattle.share_fractions.specs.Round.{round}
use Rattle.share_fractions.proofs.rounded.Goals as goal

pub returns-clause-value : goal.returns-clause-value
unfolding round
returns-clause-value c = search rules
