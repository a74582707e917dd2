-- Runs between ends over memory of which no call is listed to fail.
use Rattle.std.specs.Prelude.{◌≡◌, ℕ, ◌<◌, ◌≤◌, if◌then◌else◌, true, List, [], length, take, Option, Some, None}
use Rattle.byte_ends.specs.Memory.{ReadsMemory, SinkState, SourceState, WritesMemory}
use Rattle.command_words.specs.Command.{reads_input, usage_line}
use Rattle.command_words.specs.declared.command.Command.{Command}
use Rattle.run_loop.specs.Order.{IsBefore, IsFront, IsInOrder, due}
use Rattle.run_loop.specs.Report.{report}
use Rattle.run_loop.specs.declared.reading.Ending.{Ending}
use Rattle.run_loop.specs.declared.reading.Ending.TheVariants.{Whole, Failed, TooLong, Open}

-- what the words ask for over an input that is read whole: the report of it, of hands that are made that of no input, and where
-- they are in no form the usage line
abbrev pub report_on : Option Command → List ℕ → List ℕ
report_on None input = usage_line
report_on (Some asked) input = report asked (if reads_input asked.mode then input else [])

-- how far an input was read, of which no read fails
abbrev pub ReadsSo : ℕ → List ℕ → List ℕ → Ending → Type 0
ReadsSo limit input bytes Open = (length bytes ≤ limit) × IsFront bytes input
ReadsSo limit input bytes Whole = (length input ≤ limit) × (bytes ≡ input)
ReadsSo limit input bytes TooLong = (limit < length input) × (bytes ≡ take limit input)
ReadsSo limit input bytes Failed = ⊥

-- what is written is the first of what was due, which has more
abbrev pub IsCutShort : ℕ → Option Command → List ℕ → List ℕ → Type 0
IsCutShort limit None input taken = IsBefore taken usage_line
IsCutShort limit (Some asked) input taken =
    (bytes : List ℕ) × (ending : Ending) × (reads_input asked.mode ≡ true → ReadsSo limit input bytes ending)
    × IsBefore taken (due asked ending bytes)

-- a run between ends over memory: no read fails, and a write only where the room is full and more is due, which is 4
pub record IsMemoryRun (limit : ℕ) (asked : Option Command) (status : ℕ) (s : SourceState) (k : SinkState)
    (s' : SourceState) (k' : SinkState) : Type 0 where
  pub calm : s'.faults ≡ s.faults
  pub within : length k'.taken ≤ k.room
  pub full : status ≡ 4 → (length k'.taken ≡ k.room) × IsCutShort limit asked s.left k'.taken
  -- so it isn't 4 where the report of an input within the limit fits into the room
  pub fits : length s.left ≤ limit → length (report_on asked s.left) ≤ k.room → status ≡ 4 → ⊥

-- each run that is in order is such a run
abbrev pub MemoryRuns : Type 0
MemoryRuns = (limit : ℕ) (asked : Option Command) (status : ℕ) (s : SourceState) (k : SinkState) (s' : SourceState) (k' : SinkState)
    → s.fails ≡ [] → k.fails ≡ [] → k.taken ≡ []
    → IsInOrder ReadsMemory WritesMemory limit asked status s k s' k' → IsMemoryRun limit asked status s k s' k'
