use Rattle.hand_audit.proofs.orders.+add_marked.Given as goal

abbrev pub decreases-add_marked : goal.decreases-add_marked
decreases-add_marked l = l.below
