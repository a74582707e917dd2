use Rattle.std.proofs.Common.{List, take, sym, subst}
use Rattle.board_ranks.specs.KeptSieves.{AreSieves}
use Rattle.board_ranks.specs.declared.pair.Pair.{Pair}
use Rattle.board_runouts.proofs.pairs.Pairs.ready.Goals as goal

pub ready-requires-clause-right : goal.ready-requires-clause-right
ready-requires-clause-right c =
    let P : List Pair → Type 0 = λ pairs. AreSieves (take c.args.self.now.used pairs) c.args.self.now.sieves.list.items in
    subst P (sym c.deref.ensures.value) c.args.self.now.parted

pub invariant_of-self-clause-parted : goal.invariant_of-self-clause-parted
invariant_of-self-clause-parted c =
    let P : List Pair → Type 0 = λ pairs. AreSieves (take c.args.self.now.used pairs) c.ready.new.self.list.items in
    subst P c.deref.ensures.value c.ready.ensures.right
