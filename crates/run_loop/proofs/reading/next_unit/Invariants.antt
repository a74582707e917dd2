use Rattle.std.proofs.Common.{◌≡◌, ◌≤◌, ℕ, List, Option, false}
use Rattle.hand_cuts.specs.Units.{UnitLines}
use Rattle.hand_cuts.specs.declared.limits.TheConstants.{INPUT_MAX}
use Rattle.hand_cuts.specs.declared.units.CutKind.{CutKind}
use Rattle.run_loop.specs.Cutting.{Cuts, ReadsOn}
use Rattle.run_loop.specs.Units.{left_over}
use Rattle.run_loop.specs.declared.reading.Ending.TheVariants.{Open}
use Rattle.run_loop.proofs.InputPieces.{left_to_read}
use Rattle.run_loop.proofs.reading.next_unit.Given as goal

abbrev pub invariant-pieces : goal.invariant-pieces
invariant-pieces g l = record {
  going : l.input.ending ≡ Open → l.input.cutter.closed ≡ false;
  order : (kind : CutKind) (bytes : List ℕ) (done : List UnitLines) → Cuts INPUT_MAX kind l.fn.input bytes done
      → (made : List (Option (List ℕ))) × (behind : List ℕ)
      × ReadsOn g.S.Source.reads INPUT_MAX kind done l.fn.source l.fn.input.ending bytes made l.source l.input.ending behind
      × Cuts INPUT_MAX kind l.input behind done × (left_over INPUT_MAX l.input ≤ left_over INPUT_MAX l.fn.input);
}

abbrev pub decreases-pieces : goal.decreases-pieces
decreases-pieces g l = left_to_read l.input.ending l.input.cutter.given
