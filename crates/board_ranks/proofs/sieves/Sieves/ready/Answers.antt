use Rattle.std.proofs.Common.{◌≡◌, sym, ap, ◌∙◌}
use Rattle.std.proofs.lemmas.Option.{get_or_from_slice_get}
use Rattle.board_ranks.proofs.sieves.Sieves.ready.Goals as goal

pub returns-then-is_for-clause-counts : goal.returns-then-is_for-clause-counts
returns-then-is_for-clause-counts c = λ sieve at.
    let kept : c.index.result.now ≡ sieve = c.index.ensures ∙ get_or_from_slice_get c.args.self.now.list.items c.from-place.result sieve c.index.result.now at in
    ap (λ s. s.counts) (sym kept) ∙ c.is_for.ensures c.if-is_for.true
