use Rattle.std.proofs.Common.{ap, ◌∙◌}
use Rattle.card_sets.specs.Disjoint.{apart}
use Rattle.hand_ranges.proofs.BoardSums.{cards_more}
use Rattle.range_lines.proofs.CallerLemmas.{none_apart}
use Rattle.hand_ranges.proofs.taken.Taken.cards.Goals as goal

pub loop-w-init : goal.loop-w-init
loop-w-init c = λ hand set. ap (apart hand) c.empty-cards.ensures ∙ none_apart hand

pub loop-w-preserved : goal.loop-w-preserved
loop-w-preserved c = λ hand set. ap (apart hand) c.union-cards.ensures ∙ cards_more _ c.loop-w.cards c.loop-w.w-index c.w-item.result c.loop-w-test.true c.w-item.is c.loop-w.invariant hand set
