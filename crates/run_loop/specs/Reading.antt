-- What a run reads.
use Rattle.std.specs.Prelude.{◌≡◌, ℕ, ◌+◌, ◌<◌, ◌≤◌, List, [], ◌++◌, length, take, Option, Some, None}
use Rattle.byte_ends.specs.Ends.{Rises}
use Rattle.run_loop.specs.Closed.{closed}
use Rattle.command_words.specs.declared.command.Mode.{Mode}
use Rattle.run_loop.specs.declared.reading.Ending.{Ending}
use Rattle.run_loop.specs.declared.reading.Ending.TheVariants.{Whole, Failed, TooLong, Open}

-- what a source told before is what was taken of it and what is left now
abbrev pub Takes : Option (List ℕ) → Option (List ℕ) → List ℕ → Type 0
Takes None new taken = new ≡ None
Takes (Some all) new taken = (rest : List ℕ) × (new ≡ Some rest) × (all ≡ taken ++ rest)

-- how many bytes are asked for in one read
abbrev pub piece : ℕ
piece = 16384

-- these bytes count of what was taken: all of it, or as many as the limit allows; no more was taken than the limit and a piece
abbrev pub Counted : ℕ → Option (List ℕ) → Option (List ℕ) → List ℕ → Type 0
Counted limit old new bytes = (taken : List ℕ) × Takes old new taken × (bytes ≡ take limit taken)
    × (length taken ≤ limit + piece)

-- the bytes are all that the source told, and it was read to its end
abbrev pub ReadWhole : ℕ → Option (List ℕ) → Option (List ℕ) → List ℕ → Type 0
ReadWhole limit None new bytes = new ≡ None
ReadWhole limit (Some all) new bytes = (bytes ≡ all) × (new ≡ Some []) × (length all ≤ limit)

-- the bytes are all that was taken, before a read failed or so far, and within the limit
pub record ReadToFault (limit : ℕ) (old new : Option (List ℕ)) (bytes : List ℕ) : Type 0 where
  pub takes : Takes old new bytes
  pub within : length bytes ≤ limit

-- more was taken than the limit allows, by one piece at most; the first of it count
pub record ReadTooMuch (limit : ℕ) (old new : Option (List ℕ)) (bytes : List ℕ) : Type 0 where
  pub taken : List ℕ
  pub takes : Takes old new taken
  pub over : limit < length taken
  pub near : length taken ≤ limit + piece
  pub first : bytes ≡ take limit taken

-- how the reading ended, or that it goes on
abbrev pub EndsSo : ℕ → Option (List ℕ) → Option (List ℕ) → ℕ → ℕ → List ℕ → Ending → Type 0
EndsSo limit old new faults faults' bytes Whole = ReadWhole limit old new bytes × (faults' ≡ faults)
EndsSo limit old new faults faults' bytes Failed =
    ReadToFault limit old new bytes × Rises faults faults'
EndsSo limit old new faults faults' bytes TooLong =
    ReadTooMuch limit old new bytes × (faults' ≡ faults)
EndsSo limit old new faults faults' bytes Open =
    ReadToFault limit old new bytes × (faults' ≡ faults)

-- what a report is made of: all bytes where the reading came to the end of the input, and else the closed part
abbrev pub reported : Mode → Ending → List ℕ → List ℕ
reported _ Whole bytes = bytes
reported asked Failed bytes = closed asked bytes
reported asked TooLong bytes = closed asked bytes
reported asked Open bytes = closed asked bytes
