-- Blocks that are gathered and written together.
use Rattle.std.specs.Prelude.{◌≡◌, ℕ, List, [], ◌++◌, Option, Some, None, Result, Ok, Err, ◌⊎◌}
use Rattle.byte_ends.specs.Ends.{WritesOut}
use Rattle.byte_ends.specs.declared.Failed.{Failed as Fault}
use Rattle.hand_cuts.specs.Units.{UnitLines}
use Rattle.hand_cuts.specs.declared.units.CutKind.{CutKind}
use Rattle.hand_cuts.specs.declared.units.Unit.{Unit as UnitPlace}
use Rattle.run_loop.specs.Cutting.{Begins, HandsOver, PullsOne, ReadsOn}
use Rattle.run_loop.specs.declared.reading.Ending.{Ending}
use Rattle.run_loop.specs.declared.reading.Input.{Input}
use Rattle.run_loop.specs.declared.write_fault.WriteFault.{WriteFault}
use Rattle.run_loop.specs.declared.write_fault.WriteFault.TheVariants.{Failed, Memory}

-- a block is put after those that were gathered, and all still wait, or all are written, or a write of them fails
abbrev pub Gathers : {K : Type 0} → (K → K → Option (List ℕ) → Type 0) → K → K → List ℕ → List ℕ → List ℕ →
    Result (Unit {0}) Fault → Type 0
Gathers writes old new block ready ready' (Ok _) =
    (new ≡ old) × (ready' ≡ ready ++ block)
    ⊎ WritesOut writes old new (ready ++ block) (Ok tt) × (ready' ≡ [])
Gathers writes old new block ready ready' (Err fault) = WritesOut writes old new (ready ++ block) (Err fault)

-- what was gathered is written when memory has run out, or a write of it fails
abbrev pub WritesRest : {K : Type 0} → (K → K → Option (List ℕ) → Type 0) → K → K → List ℕ → WriteFault → Type 0
WritesRest writes old new ready Memory = WritesOut writes old new ready (Ok tt)
WritesRest writes old new ready Failed = (fault : Fault) × WritesOut writes old new ready (Err fault)

-- the outcome of asking for the next unit: one that is held is handed out, and nothing is read or written; or what was gathered is
-- written first, and then what the reads give, or a write of it fails
abbrev pub AsksOne : {S K : Type 0} → (S → S → Option (List ℕ) → Type 0) → (K → K → Option (List ℕ) → Type 0) → ℕ →
    S → S → K → K → CutKind → Input → Input → List ℕ → List UnitLines → List ℕ → List ℕ →
    Result (Option UnitPlace) WriteFault → Type 0
AsksOne reads writes limit old new sink sink' kind before after bytes done ready ready' (Ok (Some unit)) =
    (new ≡ old) × (sink' ≡ sink) × (ready' ≡ ready) × (after.ending ≡ before.ending)
    × HandsOver limit kind before after bytes done unit
    ⊎ WritesOut writes sink sink' ready (Ok tt) × (ready' ≡ [])
    × PullsOne reads limit old new kind before after bytes done (Ok (Some unit))
AsksOne reads writes limit old new sink sink' kind before after bytes done ready ready' (Ok None) =
    WritesOut writes sink sink' ready (Ok tt) × PullsOne reads limit old new kind before after bytes done (Ok None)
AsksOne reads writes limit old new sink sink' kind before after bytes done ready ready' (Err Failed) =
    (fault : Fault) × (new ≡ old) × WritesOut writes sink sink' ready (Err fault)
AsksOne reads writes limit old new sink sink' kind before after bytes done ready ready' (Err Memory) =
    (made : List (Option (List ℕ))) × (ending : Ending) × (behind : List ℕ)
    × WritesOut writes sink sink' ready (Ok tt)
    × ReadsOn reads limit kind done old before.ending bytes made new ending behind
    × Begins kind ending behind done
