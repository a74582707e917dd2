use Rattle.std.proofs.Common.{◌≡◌, ◌≤◌, ◌++◌, length, map, take}
use Rattle.card_sets.specs.Cards.{union}
use Rattle.hand_choice.proofs.choices.push_unions.Given as goal

abbrev pub invariant-loop-place : goal.invariant-loop-place
invariant-loop-place l = record {
  within : l.place ≤ length l.others;
  pushed : l.list ≡ l.fn.list ++ map (λ other. union l.fn.with other) (take l.place l.others);
}
