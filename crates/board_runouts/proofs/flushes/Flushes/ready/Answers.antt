use Rattle.std.proofs.Common.{◌≡◌, sym, ap, ◌∙◌}
use Rattle.std.proofs.lemmas.Option.{get_or_from_slice_get}
use Rattle.showdown_tally.specs.Deals.{deal_of}
use Rattle.board_runouts.specs.declared.flush.Flush.{Flush}
use Rattle.board_runouts.proofs.RowSets.{same_flushes}
use Rattle.board_runouts.proofs.flushes.Flushes.ready.Goals as goal

pub returns-then-is_of-clause-there : goal.returns-then-is_of-clause-there
returns-then-is_of-clause-there c = λ flush at.
    let kept : c.index.result.now ≡ flush = c.index.ensures ∙ get_or_from_slice_get c.args.self.now.list.items c.flush_place-place.result flush c.index.result.now at in
    let e = c.is_of.ensures in
    same_flushes (deal_of c.args.table.now) flush.cards c.args.part.now.cards flush.tops flush.sets flush.suit c.args.part.now.suit (ap (λ (f : Flush). f.cards) (sym kept) ∙ e.cards c.if-is_of.true) (ap (λ (f : Flush). f.suit) (sym kept) ∙ e.suit c.if-is_of.true)
    (c.requires.right.best c.flush_place-place.result flush at (ap (λ (f : Flush). f.stamp) (sym kept) ∙ e.stamp c.if-is_of.true))
