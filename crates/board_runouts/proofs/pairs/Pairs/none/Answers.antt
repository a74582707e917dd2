use Rattle.board_runouts.proofs.pairs.Pairs.none.Goals as goal

pub invariant_of-result-clause-parted : goal.invariant_of-result-clause-parted
invariant_of-result-clause-parted c = c.in_ok-sieves.ensures _
