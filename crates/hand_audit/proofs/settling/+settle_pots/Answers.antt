use Rattle.hand_audit.proofs.lemmas.splits.PotsBehind.{decided_first, decided_rest, pots_more}
use Rattle.hand_audit.proofs.settling.+settle_pots.Goals as goal

pub returns-in_ok-later-in-len1-up-clause-settled : goal.returns-in_ok-later-in-len1-up-clause-settled
returns-in_ok-later-in-len1-up-clause-settled t c s tells d same =
    let some = c.in-len1-up.len_at_least in
    pots_more s c.args.count c.args.number c.args.layers.now _ c.args.pots.now _ _ _ _ _ some
    (c.in_ok-one-in-len1-up.ensures s tells (decided_first s c.args.layers.now _ some d) same) (c.in_ok-later-in-len1-up.ensures.settled s tells (decided_rest s c.args.layers.now some d) same)
    c.in_ok-add_pot-in-len1-up.ensures.lines c.in_ok-add_pot-in-len1-up.ensures.parts c.or.ensures
