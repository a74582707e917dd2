use Rattle.board_ranks.proofs.three_ranks.ThreeRanks.fill.Goals as goal

pub invariant_of-self : goal.invariant_of-self
invariant_of-self c = record { right = c.fill_threes.ensures }
