-- How clauses see the names that the code keeps.
use Rattle.std.specs.Prelude.{ℕ, List}
use Rattle.hand_events.specs.declared.names.Seated.{Seated}

-- a seat and its name
abbrev pub pair : Seated → ℕ × List ℕ
pair who = (who.seat, who.name.items)
