use Rattle.std.specs.Prelude.{◌≡◌, ◌≤◌, drop}
use Rattle.pot_layers.specs.Split.{given}
use Rattle.pot_layers.proofs.splits.given.Given as goal

-- none so far: what the seat gets is what those that are left give it
abbrev pub invariant-loop-first : goal.invariant-loop-first
invariant-loop-first l = record {
  so_far : given l.each l.fn.extra l.order l.seat ≡ given l.each l.extra (drop l.first-index l.order) l.seat;
  fewer : l.extra ≤ l.fn.extra;
}
