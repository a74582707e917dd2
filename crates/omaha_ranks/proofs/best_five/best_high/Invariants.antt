use Rattle.std.proofs.Common.{◌≡◌, map}
use Rattle.card_sets.proofs.CallerLemmas.{greatest}
use Rattle.rank_high.proofs.CallerLemmas.{number}
use Rattle.omaha_ranks.proofs.best_five.best_high.Given as goal

abbrev pub invariant-loop-five : goal.invariant-loop-five
invariant-loop-five l = l.best ≡ greatest (map number l.yielded)
