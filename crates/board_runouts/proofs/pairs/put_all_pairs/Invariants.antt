use Rattle.std.proofs.Common.{◌≡◌, ◌+◌, ◌≤◌, ◌++◌, drop, length, map, take}
use Rattle.card_sets.specs.Choose.{choose}
use Rattle.board_runouts.specs.Pairs.{cards_of_pair}
use Rattle.board_runouts.proofs.pairs.put_all_pairs.Given as goal

abbrev pub invariant-loop-place : goal.invariant-loop-place
invariant-loop-place l = record {
  same : length l.pairs ≡ 1326;
  few : l.used + length (choose 2 (drop l.place l.cards)) ≤ 1326;
  pairs : map cards_of_pair (take l.used l.pairs) ++ choose 2 (drop l.place l.cards) ≡ choose 2 l.cards;
}
