use Rattle.std.proofs.Common.{◌+◌, ap, ◌∙◌}
use Rattle.showdown_tally.specs.SideCounts.{low_mark as mark_of}
use Rattle.card_sets.specs.State.{state_of}
use Rattle.showdown_tally.specs.Deals.{deal_of}
use Rattle.showdown_tally.specs.Showdown.{eligible_in}
use Rattle.runout_walk.specs.Bests.{best_set}
use Rattle.board_runouts.specs.Highs.{plain_of}
use Rattle.board_runouts.proofs.sides.pot_ends.Goals as goal

pub returns-clause-best : goal.returns-clause-best
returns-clause-best c = λ runout worths.
    let high = c.pot_best-high.ensures.best (plain_of (state_of c.args.table.now.known) runout) worths.as_highs in
    let low = c.winners_on-low.ensures.value runout (λ has. worths.as_lows) in
    record {
      low_set = low;
      main_set = ap (λ n. n + c.low_mark.result) high.1 ∙ ap (λ n. best_set (plain_of (state_of c.args.table.now.known) runout) (eligible_in (deal_of c.args.table.now) c.args.pot) + n) (c.low_mark.ensures.value ∙ ap mark_of low);
      best = high.0;
    }
