-- A law about the units of any bytes.
use Rattle.std.specs.Prelude.{◌≡◌, ℕ, Bool, false, List, ◌++◌}
use Rattle.hand_cuts.specs.Units.{UnitLines, units_in}
use Rattle.hand_cuts.specs.declared.units.CutKind.{CutKind}

-- the closed units of some bytes come first, whatever follows, and whether more may follow or not
abbrev pub ClosedUnitsStay : Type 0
ClosedUnitsStay = (kind : CutKind) (whole : Bool) (number : ℕ) (bytes rest : List ℕ)
    → (more : List UnitLines) × (units_in kind whole number (bytes ++ rest) ≡ units_in kind false number bytes ++ more)
