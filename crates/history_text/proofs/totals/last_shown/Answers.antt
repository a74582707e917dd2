use Rattle.std.proofs.Common.{sym, ◌∙◌}
use Rattle.history_text.proofs.ShownPlaces.{none_shown}
use Rattle.history_text.proofs.totals.last_shown.Goals as goal

pub returns-then-not-opens_bracket : goal.returns-then-not-opens_bracket
returns-then-not-opens_bracket c = sym (none_shown c.args.text.now (sym c.opens_bracket.ensures ∙ c.if-not-opens_bracket.true))
