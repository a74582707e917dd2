-- What a run of the program does: its status, and what it reads and writes. In which order is in `Order`, and all that stands here
-- follows from that.
use Rattle.std.specs.Prelude.{◌≡◌, ℕ, ◌<◌, ◌≤◌, ◌==◌, true, false, if◌then◌else◌, List, length, take, Option, IfSome, IfNone, IsNone, IsSomeAnd, ◌⊎◌}
use Rattle.std.specs.List.{concat}
use Rattle.byte_ends.specs.Ends.{Rises, WritesAll, WritesFront}
use Rattle.run_loop.specs.Closed.{closed}
use Rattle.command_words.specs.Command.{makes, reads, reads_input, usage_line}
use Rattle.command_words.specs.declared.command.Command.{Command}
use Rattle.run_loop.specs.Reading.{Counted, EndsSo, ReadWhole, ReadToFault, ReadTooMuch, reported}
use Rattle.run_loop.specs.declared.reading.Ending.{Ending}
use Rattle.run_loop.specs.declared.reading.Ending.TheVariants.{Whole, Failed, TooLong, Open}
use Rattle.run_loop.specs.Laws.{has_blocks}
use Rattle.run_loop.specs.Report.{blocks, report, rejects}

-- what the ends had before a run, or have after it: the bytes left to read and those taken, where they are told, and the counts of faults
pub record Ends : Type 0 where
  pub left : Option (List ℕ)
  pub read_faults : ℕ
  pub taken : Option (List ℕ)
  pub write_faults : ℕ

-- what a source and a sink tell of that
abbrev pub ends_of : {S K : Type 0} → (S → Option (List ℕ)) → (S → ℕ) → (K → Option (List ℕ)) → (K → ℕ) → S → K → Ends
ends_of left read_faults taken write_faults source sink = record {
  left = left source;
  read_faults = read_faults source;
  taken = taken sink;
  write_faults = write_faults sink;
}

-- neither count of faults rose
pub record IsFaultless (old new : Ends) : Type 0 where
  pub read : ¬ Rises old.read_faults new.read_faults
  pub write : ¬ Rises old.write_faults new.write_faults

-- all was read, unless hands are made, and written: the report of what was read stands after what was taken before
pub record IsFinished (limit : ℕ) (command : Command) (status : ℕ) (old new : Ends) : Type 0 where
  pub bytes : List ℕ
  pub read : reads_input command.mode ≡ true → ReadWhole limit old.left new.left bytes
  pub written : WritesAll old.taken new.taken (report command bytes)
  pub status_is : status ≡ (if rejects command bytes == 0 then 0 else 1)
  pub no_read_fault : new.read_faults ≡ old.read_faults
  pub no_write_fault : new.write_faults ≡ old.write_faults

-- a read failed: the report of the closed part of what was taken, which is within the limit, is written
pub record IsReadFault (limit : ℕ) (command : Command) (old new : Ends) : Type 0 where
  pub reads : reads_input command.mode ≡ true
  pub rises : Rises old.read_faults new.read_faults
  pub bytes : List ℕ
  pub read : ReadToFault limit old.left new.left bytes
  pub written : WritesAll old.taken new.taken (report command (closed command.mode bytes))

-- a write failed: a front of the report is written, that of all that was taken where the source was read to its end, and that
-- of its closed part where a read failed, there was more than the limit, or the reading goes on
pub record IsWriteFault (limit : ℕ) (command : Command) (old new : Ends) : Type 0 where
  pub rises : Rises old.write_faults new.write_faults
  pub bytes : List ℕ
  pub counted : Counted limit old.left new.left bytes
  pub ending : Ending
  pub ended : reads_input command.mode ≡ true →
      EndsSo limit old.left new.left old.read_faults new.read_faults bytes ending
  pub written : WritesFront old.taken new.taken
      (report command (reported command.mode ending bytes))
  -- while the reading goes on nothing is written of a report that is one block for all hands
  pub going : reads_input command.mode ≡ true → ending ≡ Open → has_blocks command.mode ≡ true

-- there was more than the limit: the report of the closed part of the bytes within the limit is written
pub record IsTooLong (limit : ℕ) (command : Command) (old new : Ends) : Type 0 where
  pub reads : reads_input command.mode ≡ true
  pub bytes : List ℕ
  pub read : ReadTooMuch limit old.left new.left bytes
  pub written : WritesAll old.taken new.taken (report command (closed command.mode bytes))

-- memory ran out: the first blocks of the report are written, each whole. Where there is one, the report is that of all that was
-- taken where the source was read to its end, and that of its closed part where a read failed, there was more than the limit, or
-- the reading goes on
pub record IsMemoryShort (limit : ℕ) (command : Command) (old new : Ends) : Type 0 where
  pub bytes : List ℕ
  pub counted : Counted limit old.left new.left bytes
  pub ending : Ending
  pub count : ℕ
  pub ended : reads_input command.mode ≡ true → 0 < count →
      EndsSo limit old.left new.left old.read_faults new.read_faults bytes ending
  pub written : WritesAll old.taken new.taken
      (concat (take count (blocks command (reported command.mode ending bytes))))
  pub going : reads_input command.mode ≡ true → 0 < count → ending ≡ Open →
      has_blocks command.mode ≡ true

-- a run whose words ask for a mode, or for none, that ends with a status, between these ends
pub record IsRun (limit : ℕ) (asked : Option Command) (status : ℕ) (old new : Ends) : Type 0 where
  -- one of seven statuses
  pub known : status ≤ 6
  -- a failed write is told: no write failed, or the status is 4
  pub write_told : (new.write_faults ≡ old.write_faults) ⊎ (status ≡ 4)
  -- a failed read is told: no read failed, or the status is 3, 4 or 6
  pub read_told : (new.read_faults ≡ old.read_faults) ⊎ (status ≡ 3) ⊎ (status ≡ 4) ⊎ (status ≡ 6)
  -- 0 and 1: all was read and written; which of the two, by whether a spot or a hand was rejected
  pub finished : (status ≡ 0) ⊎ (status ≡ 1) →
      IsSomeAnd asked (λ command. IsFinished limit command status old new)
  -- 2: the words are in no form, and the usage line is written
  pub usage : status ≡ 2 → IsNone asked × WritesAll old.taken new.taken usage_line
  -- with words in no form, and where hands are made, nothing is read
  pub unread : reads asked ≡ false → (new.left ≡ old.left) × (new.read_faults ≡ old.read_faults)
  -- 3: only where a read failed
  pub read_fault : status ≡ 3 → IsSomeAnd asked (λ command. IsReadFault limit command old new)
  -- 4: only where a write failed
  pub write_fault : status ≡ 4 → IfSome asked (λ command. IsWriteFault limit command old new)
  pub usage_fault : status ≡ 4 → IfNone asked (Rises old.write_faults new.write_faults
      × WritesFront old.taken new.taken usage_line)
  -- 5: only where the source gave more than the limit
  pub too_long : status ≡ 5 → IsSomeAnd asked (λ command. IsTooLong limit command old new)
  -- 6: memory ran out
  pub memory : status ≡ 6 → IfSome asked (λ command. IsMemoryShort limit command old new)
  pub usage_memory : status ≡ 6 → IfNone asked (new.taken ≡ old.taken)
  -- words that ask for a report of the input, no fault and an input within the limit end in 0 or 1, or out of memory in 6
  pub complete : reads asked ≡ true → IsFaultless old new →
      IfSome old.left (λ bytes. length bytes ≤ limit → (status ≡ 0) ⊎ (status ≡ 1) ⊎ (status ≡ 6))
  -- such words, no fault and an input above the limit end in 5, or out of memory in 6
  pub complete_long : reads asked ≡ true → IsFaultless old new →
      IfSome old.left (λ bytes. limit < length bytes → (status ≡ 5) ⊎ (status ≡ 6))
  -- words that ask for hands that are made, and no failed write end in 0 or 1, or out of memory in 6
  pub complete_made : makes asked ≡ true → ¬ Rises old.write_faults new.write_faults →
      (status ≡ 0) ⊎ (status ≡ 1) ⊎ (status ≡ 6)
  -- words in no form and no failed write end in 2, or out of memory in 6
  pub complete_usage : IsNone asked → ¬ Rises old.write_faults new.write_faults →
      (status ≡ 2) ⊎ (status ≡ 6)

-- the status of a run whose report was written, by how the reading ended and how many spots or hands are rejected; it has ended
abbrev pub written_status : Ending → ℕ → ℕ
written_status Whole rejected = if rejected == 0 then 0 else 1
written_status Failed rejected = 3
written_status TooLong rejected = 5
written_status Open rejected = 5
