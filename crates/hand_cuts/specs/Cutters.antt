-- The calls of a cutter.
use Rattle.std.specs.Prelude.{◌≡◌, ℕ, ◌+◌, ◌<◌, ◌≤◌, Bool, true, false, List, [], ◌∷◌, ◌++◌, length, drop, slice_range, ◌⊎◌}
use Rattle.line_text.specs.Lines.{lines, closed}
use Rattle.line_text.specs.Laws.{EndsInNewline}
use Rattle.hand_cuts.specs.Units.{UnitLines, units_in, up_to_header}
use Rattle.hand_cuts.specs.CutterState.{CutterState}
use Rattle.hand_cuts.specs.declared.units.CutKind.{CutKind}
use Rattle.hand_cuts.specs.declared.units.CutKind.TheVariants.{Hands, Lines}
use Rattle.hand_cuts.specs.declared.units.Unit.{Unit as UnitPlace}

-- no bytes were given
abbrev pub new_cutter : CutKind → CutterState
new_cutter kind = record { kind = kind; held = []; at = 0; line = 1; given = 0; closed = false }

-- the bytes not yet handed out, and their units
abbrev pub rest : CutterState → List ℕ
rest c = drop c.at c.held

abbrev pub units_left : CutterState → List UnitLines
units_left c = units_in c.kind c.closed c.line (rest c)

-- the lines of a unit at its places
abbrev pub seen : List ℕ → UnitPlace → UnitLines
seen held unit = record { first = unit.first_line; lines = lines (slice_range held unit.first unit.end) }

-- the bytes that may follow the given ones, and whether all bytes are then known: any bytes while the cutter is open,
-- and none when it is closed
abbrev pub MayFollow : Bool → Bool → List ℕ → Type 0
MayFollow closed whole more = closed ≡ true → (whole ≡ true) × (more ≡ [])

-- a unit is handed out by its places, and the cutter moves past it
pub record Gives (old new : CutterState) (unit : UnitPlace) : Type 0 where
  pub behind : old.at ≤ unit.first
  pub some : unit.first < unit.end
  pub within : unit.end ≤ length old.held
  -- it begins where a line begins, and ends after a newline or at the end of the bytes
  pub begins : EndsInNewline (slice_range old.held old.at unit.first)
  pub ends : EndsInNewline (slice_range old.held unit.first unit.end) ⊎ (unit.end ≡ length old.held)
  -- it is the first unit of the rest, and the other units are those of the new rest
  pub first : units_left old ≡ seen old.held unit ∷ units_left new
  -- it remains the first unit, whatever follows
  pub stays : (whole : Bool) (more : List ℕ) → MayFollow old.closed whole more
      → units_in old.kind whole old.line (rest old ++ more) ≡ seen old.held unit ∷ units_in new.kind whole new.line (rest new ++ more)
  -- the number of the line after it counts from its first line, and from the line at which the old rest began
  pub counted : new.line ≡ unit.first_line + length (lines (slice_range old.held unit.first unit.end))
  pub after : new ≡ record old { at = unit.end; line = old.line + length (lines (slice_range old.held old.at unit.end)) }

-- the lines of the rest that are dropped: if hands are cut, the lines before the first header line, with their newlines
abbrev pub dropped_lines : CutKind → List ℕ → List (List ℕ)
dropped_lines Hands bytes = up_to_header (lines (closed bytes))
dropped_lines Lines bytes = []

-- the bytes handed out are dropped, and some first lines of the rest with their newlines
pub record Forgets (old new : CutterState) : Type 0 where
  pub dropped : List ℕ
  pub split : rest old ≡ dropped ++ rest new
  pub whole : EndsInNewline dropped
  pub which : lines dropped ≡ dropped_lines old.kind (rest old)
  pub after : new ≡ record old { held = rest new; at = 0; line = old.line + length (lines dropped) }
  -- the units of the rest remain the same, whatever follows
  pub units : (whole : Bool) (more : List ℕ) → MayFollow old.closed whole more
      → units_in old.kind whole old.line (rest old ++ more) ≡ units_in new.kind whole new.line (rest new ++ more)
