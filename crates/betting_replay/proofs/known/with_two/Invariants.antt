use Rattle.std.specs.Prelude.{◌≡◌, drop}
use Rattle.card_sets.specs.Cards.{union}
use Rattle.betting_replay.specs.Known.{first_outside}
use Rattle.betting_replay.proofs.known.with_two.Given as goal

abbrev pub invariant-loop-card : goal.invariant-loop-card
invariant-loop-card l = union l.fn.cards (first_outside 2 l.others l.row) ≡ union l.all (first_outside l.left l.others (drop l.card-index l.row))
