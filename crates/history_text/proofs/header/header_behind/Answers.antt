use Rattle.std.proofs.Common.{◌∙◌}
use Rattle.history_text.proofs.HeaderPlaces.{header_found}
use Rattle.history_text.proofs.header.header_behind.Goals as goal

pub returns-clause-value : goal.returns-clause-value
returns-clause-value c =
    c.with_stakes.ensures.value
    ∙ header_found c.args.game c.args.limit c.args.text.now (c.in-Some.first, c.in-Some.second) c.in-Some.ensures
