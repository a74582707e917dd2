use Rattle.std.proofs.Common.{arith, slice_index}
use Rattle.rank_low.proofs.LowestPair.{three-small}
use Rattle.rank_low.proofs.low_ranks.pair_and_three.Goals as goal

pub overflow_add-result-2 : goal.overflow_add-result-2
overflow_add-result-2 c = omega (arith, three-small (slice_index c.args.counts.now) c.in_ok-pair.pair c.in_ok-others.others c.in_ok-others.ensures)
