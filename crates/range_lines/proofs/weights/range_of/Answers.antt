use Rattle.std.proofs.Common.{◌≡◌, List, ◌++◌, ap, ◌∙◌, map}
use Rattle.std.specs.List.{filter_map, flat_map}
use Rattle.card_sets.specs.Cards.{deck}
use Rattle.range_lines.specs.declared.pairs.Pair.{Pair}
use Rattle.range_lines.specs.declared.spot.Weighted.{Weighted}
use Rattle.range_lines.specs.Hands.{all_pairs, pairs_of, hand_of}
use Rattle.range_lines.specs.Weights.{with_weight}
use Rattle.range_lines.proofs.weights.range_of.Goals as goal

pub loop-low-init : goal.loop-low-init
unfolding all_pairs
loop-low-init c =
    let all : c.into_iter-low-iterator.result.rest ≡ deck = ap (λ i. i.rest) c.into_iter-low-iterator.ensures.into_iter_gives ∙ c.iter-low-items.ensures.cards ∙ c.deck.ensures in
    let hands : List Pair → List Weighted = λ ps. filter_map (hand_of c.args.board c.args.dead) (map (with_weight c.args.cells.now) ps) in
    ap (λ l. l ++ hands (flat_map pairs_of c.into_iter-low-iterator.result.rest)) c.new-hands.ensures.items ∙ ap (λ cards. hands (flat_map pairs_of cards)) all
