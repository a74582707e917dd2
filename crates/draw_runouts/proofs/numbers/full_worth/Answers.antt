use Rattle.std.proofs.Common.{ap, ◌∙◌}
use Rattle.card_sets.specs.Disjoint.{apart}
use Rattle.draw_runouts.proofs.DrawLists.{apart_none}
use Rattle.draw_runouts.proofs.numbers.full_worth.Goals as goal

pub side_value-requires-clause-apart : goal.side_value-requires-clause-apart
side_value-requires-clause-apart c = ap (apart c.args.full) c.empty-none.ensures ∙ apart_none c.args.full
