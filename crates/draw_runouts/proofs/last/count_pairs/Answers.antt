use Rattle.std.proofs.Common.{sym, ◌∙◌}
use Rattle.runout_ranges.proofs.CallerLemmas.{length_choose}
use Rattle.draw_runouts.proofs.last.count_pairs.Goals as goal

pub returns : goal.returns
returns c = c.choices.ensures ∙ sym (length_choose 2 c.args.cards.now)
