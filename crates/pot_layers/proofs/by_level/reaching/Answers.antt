use Rattle.std.proofs.Common.{◌∙◌, rules}
use Rattle.pot_layers.specs.Pots.{reaches}
use Rattle.pot_layers.proofs.by_level.reaching.Goals as goal

pub returns : goal.returns
returns c = c.bits.ensures ∙ c.passing.ensures (reaches c.args.paid.now c.args.level) (λ p pass inside post. search rules)
