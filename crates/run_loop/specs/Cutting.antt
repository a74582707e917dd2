-- How far the bytes that were read are cut into units, what was read meanwhile, and what is held of it.
use Rattle.std.specs.Prelude.{◌≡◌, ℕ, ◌-◌, ◌<◌, ◌≤◌, Bool, false, List, [], ◌∷◌, ◌++◌, length, take, Option, Some, None, Result, Ok, Err}
use Rattle.card_sets.specs.declared.Memory.{Memory}
use Rattle.line_text.specs.Lines.{lines}
use Rattle.line_text.specs.Laws.{EndsInNewline}
use Rattle.hand_cuts.specs.Units.{UnitLines, units_in}
use Rattle.hand_cuts.specs.CutterState.{CutterState}
use Rattle.hand_cuts.specs.Cutters.{MayFollow, dropped_lines, rest, seen}
use Rattle.hand_cuts.specs.declared.units.CutKind.{CutKind}
use Rattle.hand_cuts.specs.declared.units.Unit.{Unit as UnitPlace}
use Rattle.run_loop.specs.Order.{Comes, with_read}
use Rattle.run_loop.specs.Units.{IsUnit, is_whole, left_over}
use Rattle.run_loop.specs.declared.reading.Ending.{Ending}
use Rattle.run_loop.specs.declared.reading.Ending.TheVariants.{Open}
use Rattle.run_loop.specs.declared.reading.Input.{Input}

-- which units of the bytes that were read were handed out: whatever follows, the units of all bytes are those, and then the units
-- of the bytes not yet handed out
pub record Cuts (limit : ℕ) (kind : CutKind) (input : Input) (bytes : List ℕ) (done : List UnitLines) : Type 0 where
  pub kind_is : input.cutter.kind ≡ kind
  pub closed_is : input.cutter.closed ≡ is_whole input.ending
  pub inside : input.cutter.at ≤ length input.cutter.held
  pub few : input.cutter.given ≤ limit
  pub goes_on : input.ending ≡ Open → length bytes ≡ input.cutter.given
  pub split : (whole : Bool) (more : List ℕ) → MayFollow input.cutter.closed whole more
      → units_in kind whole 1 (bytes ++ more)
      ≡ done ++ units_in kind whole input.cutter.line (rest input.cutter ++ more)

-- some units are the first of what is reported
abbrev pub Begins : CutKind → Ending → List ℕ → List UnitLines → Type 0
Begins kind ending bytes done = (more : List UnitLines) × (units_in kind (is_whole ending) 1 bytes ≡ done ++ more)

-- what counts of one more read after this number of bytes was given: of a piece no more than the limit, and nothing of a read that failed
abbrev pub counted : ℕ → ℕ → Option (List ℕ) → List ℕ
counted limit given None = []
counted limit given (Some more) = take (limit - given) more

-- the text of a cutter that is open: what wasn't handed out, and where hands are cut without the lines before the first header line
pub record IsOpenText (cutter : CutterState) (text : List ℕ) : Type 0 where
  pub dropped : List ℕ
  pub split : rest cutter ≡ dropped ++ text
  pub whole : EndsInNewline dropped
  pub which : lines dropped ≡ dropped_lines cutter.kind (rest cutter)

-- what is held after one more read: the text that was open, then what counts of the piece that was read, and nothing else
abbrev pub Holds : ℕ → CutterState → CutterState → Option (List ℕ) → Type 0
Holds limit before after read =
    (text : List ℕ) × IsOpenText before text × (after.held ≡ text ++ counted limit before.given read) × (after.at ≡ 0)

-- the outcome of one read, for which the cutter took no place: no more may be handed out than before. What is held is the open text
-- and the piece; after a read that failed, and out of memory, the open text alone
abbrev pub ReadsOne : {S : Type 0} → (S → S → Option (List ℕ) → Type 0) → ℕ → S → S → CutKind → CutterState → CutterState →
    List ℕ → List UnitLines → Result Ending Memory → Type 0
ReadsOne reads limit old new kind before after bytes done (Ok ending) =
    (read : Option (List ℕ)) × reads old new read × Comes limit bytes read ending
    × Cuts limit kind (record { cutter = after; ending = ending }) (with_read limit bytes read) done
    × (left_over limit (record { cutter = after; ending = ending }) ≤ left_over limit (record { cutter = before; ending = Open }))
    × Holds limit before after read
ReadsOne reads limit old new kind before after bytes done (Err _) =
    (read : Option (List ℕ)) × (ending : Ending) × reads old new read × Comes limit bytes read ending
    × Begins kind ending (with_read limit bytes read) done
    × Holds limit before after None

-- some reads, one after the other, each at a moment when no more units were closed than these, and what counts after them
abbrev pub ReadsOn : {S : Type 0} → (S → S → Option (List ℕ) → Type 0) → ℕ → CutKind → List UnitLines → S → Ending → List ℕ →
    List (Option (List ℕ)) → S → Ending → List ℕ → Type 0
ReadsOn reads limit kind done old ending bytes [] new ending' bytes' =
    (new ≡ old) × (ending' ≡ ending) × (bytes' ≡ bytes)
ReadsOn {S} reads limit kind done old ending bytes (read ∷ later) new ending' bytes' =
    (mid : S) × (how : Ending) × (ending ≡ Open) × (units_in kind false 1 bytes ≡ done)
    × reads old mid read × Comes limit bytes read how
    × ReadsOn reads limit kind done mid how (with_read limit bytes read) later new ending' bytes'

-- a unit is handed out, and it takes a byte or more
pub record HandsOver (limit : ℕ) (kind : CutKind) (before after : Input) (bytes : List ℕ) (done : List UnitLines)
    (unit : UnitPlace) : Type 0 where
  pub unit_is : IsUnit limit kind after.cutter.held unit
  pub cuts : Cuts limit kind after bytes (done ++ seen after.cutter.held unit ∷ [])
  pub fewer : left_over limit after < left_over limit before

-- the outcome of asking for the next unit, by the bytes that were read for it
abbrev pub Hands : ℕ → CutKind → Input → Input → Ending → List ℕ → List UnitLines → Result (Option UnitPlace) Memory → Type 0
Hands limit kind before after ending bytes done (Ok (Some unit)) =
    (after.ending ≡ ending) × HandsOver limit kind before after bytes done unit
Hands limit kind before after ending bytes done (Ok None) =
    (after.ending ≡ ending) × (ending ≡ Open → ⊥) × (units_in kind (is_whole ending) 1 bytes ≡ done)
Hands limit kind before after ending bytes done (Err _) = Begins kind ending bytes done

-- the same with the reads that were made for it
pub record PullsOne {S : Type 0} (reads : S → S → Option (List ℕ) → Type 0) (limit : ℕ) (old new : S) (kind : CutKind)
    (before after : Input) (bytes : List ℕ) (done : List UnitLines) (result : Result (Option UnitPlace) Memory) : Type 0 where
  pub made : List (Option (List ℕ))
  pub ending : Ending
  pub behind : List ℕ
  pub order : ReadsOn reads limit kind done old before.ending bytes made new ending behind
  pub hands : Hands limit kind before after ending behind done result

-- some reads, one after the other, while the reading goes on, and what counts after them
abbrev pub ReadsAll : {S : Type 0} → (S → S → Option (List ℕ) → Type 0) → ℕ → S → Ending → List ℕ →
    List (Option (List ℕ)) → S → Ending → List ℕ → Type 0
ReadsAll reads limit old ending bytes [] new ending' bytes' =
    (new ≡ old) × (ending' ≡ ending) × (bytes' ≡ bytes)
ReadsAll {S} reads limit old ending bytes (read ∷ later) new ending' bytes' =
    (mid : S) × (how : Ending) × (ending ≡ Open) × reads old mid read × Comes limit bytes read how
    × ReadsAll reads limit mid how (with_read limit bytes read) later new ending' bytes'
