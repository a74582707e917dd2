-- What becomes of a report and of the usage line.
use Rattle.std.specs.Prelude.{◌≡◌, ℕ, List, Option, Result, Ok, Err, ◌⊎◌}
use Rattle.byte_ends.specs.Ends.{WritesOut}
use Rattle.byte_ends.specs.declared.Failed.{Failed as Fault}
use Rattle.command_words.specs.Command.{usage_line}
use Rattle.run_loop.specs.Headline.{written_status}
use Rattle.run_loop.specs.declared.reading.Ending.{Ending}
use Rattle.run_loop.specs.declared.write_fault.WriteFault.{WriteFault}
use Rattle.run_loop.specs.declared.write_fault.WriteFault.TheVariants.{Failed, Memory}

-- the status that a report ends with
abbrev pub told_status : Ending → Result ℕ WriteFault → ℕ
told_status ending (Ok rejected) = written_status ending rejected
told_status ending (Err Failed) = 4
told_status ending (Err Memory) = 6

-- what becomes of one block of all hands, and how many are rejected: it is written, a write of it fails, or memory runs out
-- nothing is written
abbrev pub WritesMade : {K : Type 0} → (K → K → Option (List ℕ) → Type 0) → K → K → List ℕ → ℕ → Result ℕ WriteFault → Type 0
WritesMade writes old new block count (Ok rejected) = WritesOut writes old new block (Ok tt) × (rejected ≡ count)
WritesMade writes old new block count (Err Failed) = (fault : Fault) × WritesOut writes old new block (Err fault)
WritesMade writes old new block count (Err Memory) = new ≡ old

-- what becomes of the usage line, and the status: it is written, or a write of it fails
abbrev pub WritesUsage : {K : Type 0} → (K → K → Option (List ℕ) → Type 0) → K → K → ℕ → Type 0
WritesUsage writes old new status =
    (status ≡ 2) × WritesOut writes old new usage_line (Ok tt)
    ⊎ (status ≡ 4) × (fault : Fault) × WritesOut writes old new usage_line (Err fault)
