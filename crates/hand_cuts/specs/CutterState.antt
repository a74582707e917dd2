-- What clauses see of a cutter.
use Rattle.std.specs.Prelude.{ℕ, Bool, List}
use Rattle.hand_cuts.specs.declared.units.CutKind.{CutKind}

-- a cutter: what it cuts into, the bytes that it has, the place in them of the first byte not yet handed out, the
-- number of the line that begins there, how many bytes were given in all, and whether no more follow
pub record CutterState : Type 0 where
  pub kind : CutKind
  pub held : List ℕ
  pub at : ℕ
  pub line : ℕ
  pub given : ℕ
  pub closed : Bool
