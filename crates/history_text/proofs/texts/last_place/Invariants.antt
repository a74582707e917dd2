use Rattle.std.specs.Prelude.{◌+◌, ◌-◌, ◌≤◌, length}
use Rattle.history_text.proofs.MarkPlaces.{Tried}
use Rattle.history_text.proofs.texts.last_place.Given as goal

abbrev pub invariant-places : goal.invariant-places
invariant-places l = record {
  room : l.place ≤ length l.text + 1 - length l.mark;
  tried : Tried l.text l.mark l.place;
}

abbrev pub decreases-places : goal.decreases-places
decreases-places l = l.place
