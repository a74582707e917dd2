-- A number for a fact.
use Rattle.std.specs.Prelude.{ℕ, Bool, if◌then◌else◌}

-- one if so
abbrev pub one_if : Bool → ℕ
one_if b = if b then 1 else 0
