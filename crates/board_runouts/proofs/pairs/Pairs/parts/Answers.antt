use Rattle.std.proofs.Common.{List, sym, subst}
use Rattle.board_ranks.specs.KeptSieves.{IsSieve}
use Rattle.board_ranks.specs.declared.pair.Pair.{Pair}
use Rattle.board_runouts.proofs.pairs.Pairs.parts.Goals as goal

pub plain-plain-requires-clause-parted : goal.plain-plain-requires-clause-parted
plain-plain-requires-clause-parted c =
    let P : List Pair → Type 0 = λ pairs. IsSieve pairs c.sieve_at-sieve.result.now in
    subst P (sym c.listed-all.ensures.pairs) (c.args.self.now.parted c.args.place c.sieve_at-sieve.result.now c.sieve_at-sieve.ensures)

pub flush-flush-requires-clause-parted : goal.flush-flush-requires-clause-parted
flush-flush-requires-clause-parted c =
    let P : List Pair → Type 0 = λ pairs. IsSieve pairs c.sieve_at-sieve.result.now in
    subst P (sym c.listed-all.ensures.pairs) (c.args.self.now.parted c.args.place c.sieve_at-sieve.result.now c.sieve_at-sieve.ensures)
