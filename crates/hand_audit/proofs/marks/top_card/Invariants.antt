use Rattle.std.specs.Prelude.{◌≡◌, ◌<◌, map, max}
use Rattle.hand_audit.specs.Marks.{highest, height, top_card}
use Rattle.hand_audit.proofs.marks.top_card.Given as goal

abbrev pub invariant-loop-card : goal.invariant-loop-card
invariant-loop-card l = record {
  all : max l.top (highest (map (height l.side) l.card-iterator.rest)) ≡ top_card l.side l.fn.five;
  card : l.top < 52;
}
