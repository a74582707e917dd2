use Rattle.std.proofs.Common.{sym, ◌∙◌}
use Rattle.worker_seats.proofs.finishing.post_unmarked.Goals as goal

pub returns-clause-own : goal.returns-clause-own
returns-clause-own g c = (c.post.ensures.fresh (c.post.ensures.which.1 (sym c.marked.ensures ∙ c.if-marked.false))).2
