-- What a run for a page is.
use Rattle.std.specs.Prelude.{◌≡◌, ℕ, ◌≤◌, List, [], ◌∷◌, codes, length, take, Option, Some}
use Rattle.command_words.specs.Command.{command}
use Rattle.command_words.specs.declared.command.Command.{Command}
use Rattle.run_loop.specs.Headline.{IsRun}
use Rattle.run_loop.specs.MemoryRuns.{IsCutShort, report_on}

-- the words MODE --format FORM
abbrev pub asked_by : List ℕ → List ℕ → Option Command
asked_by mode form = command (mode ∷ codes "--format" ∷ form ∷ [])

-- the run of the words MODE --format FORM over the input, from an empty report, whose report is the front of the room
pub record IsPageRun (limit : ℕ) (mode form input room : List ℕ) (written status : ℕ) : Type 0 where
  pub left : List ℕ
  pub write_faults : ℕ
  pub within : written ≤ length room
  -- no read fails
  pub run : IsRun limit (asked_by mode form) status
      (record { left = Some input; read_faults = 0; taken = Some []; write_faults = 0 })
      (record { left = Some left; read_faults = 0; taken = Some (take written room); write_faults = write_faults })
  -- 4: only where the room is full, and more was due
  pub full : status ≡ 4 → (written ≡ length room) × IsCutShort limit (asked_by mode form) input room
  -- so it isn't 4 where the report of an input within the limit fits into the room
  pub fits : length input ≤ limit → length (report_on (asked_by mode form) input) ≤ length room → status ≡ 4 → ⊥
