use Rattle.std.proofs.Common.{◌≡◌, ◌+◌, [], ◌∷◌, ◌++◌, drop, length, map, take}
use Rattle.board_runouts.specs.Pairs.{cards_of_pair}
use Rattle.board_runouts.proofs.pairs.put_pairs.Given as goal

abbrev pub invariant-loop-at : goal.invariant-loop-at
invariant-loop-at l = record {
  same : length l.pairs ≡ length l.fn.pairs;
  pairs : map cards_of_pair (take (l.used + l.at) l.pairs) ++ map (λ high. l.low ∷ high ∷ []) (drop l.at l.others) ≡ map cards_of_pair (take l.used l.fn.pairs) ++ map (λ high. l.low ∷ high ∷ []) l.others;
}
