use Rattle.std.proofs.Common.{sym, ap, ◌∙◌}
use Rattle.card_sets.specs.PlayerSets.{set_of_players}
use Rattle.showdown_tally.specs.Deals.{deal_of}
use Rattle.showdown_tally.proofs.CallerLemmas.{no_side}
use Rattle.runout_walk.proofs.plain.winners_on.Goals as goal

pub returns-then-has_side-clause-value : goal.returns-then-has_side-clause-value
returns-then-has_side-clause-value c = λ runout after. c.side_outcome.ensures.value runout (after (sym c.has_side.ensures ∙ c.if-has_side.true))

pub returns-clause-value : goal.returns-clause-value
returns-clause-value c = λ runout after. sym (ap set_of_players (no_side c.args.side (deal_of c.args.table.now) c.args.pot runout (sym c.has_side.ensures ∙ c.if-has_side.false)))
