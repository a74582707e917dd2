use Rattle.std.proofs.Common.{arith}
use Rattle.board_ranks.proofs.RankCounts.{all_four}
use Rattle.board_ranks.proofs.free.free_card.Goals as goal

pub returns : goal.returns
returns c = all_four c.args.cards c.args.rank c.rising.ensures.set c.requires (λ s h. c.loop-suit.invariant s (omega arith))
