use Rattle.std.specs.Prelude.{◌≡◌, ◌++◌, map}
use Rattle.std.specs.List.{filter_map, flat_map}
use Rattle.range_lines.specs.Hands.{pair, pairs_of, hand_of}
use Rattle.range_lines.specs.Weights.{with_weight, pairs_in}
use Rattle.range_lines.proofs.weights.range_of.Given as goal

abbrev pub invariant-loop-low : goal.invariant-loop-low
invariant-loop-low l =
    l.hands.items ++ filter_map (hand_of l.fn.board l.fn.dead) (map (with_weight l.fn.cells) (flat_map pairs_of l.low-iterator.rest))
    ≡ filter_map (hand_of l.fn.board l.fn.dead) (pairs_in l.fn.cells)

abbrev pub invariant-loop-high : goal.invariant-loop-high
invariant-loop-high l =
    l.hands.items ++ filter_map (hand_of l.fn.board l.fn.dead) (map (with_weight l.fn.cells) (map (λ high. pair l.low high) l.high-iterator.rest ++ flat_map pairs_of l.low-iterator.rest))
    ≡ filter_map (hand_of l.fn.board l.fn.dead) (pairs_in l.fn.cells)
