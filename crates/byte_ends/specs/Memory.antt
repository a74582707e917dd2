-- What clauses see of a source and a sink in memory, and what their types keep.
use Rattle.std.specs.Prelude.{◌≡◌, ℕ, ◌+◌, ◌-◌, ◌<◌, ◌≤◌, ◌^◌, min, List, [], ◌++◌, length, Contains, Option, Some, None, ◌⊎◌}
use Rattle.std.specs.List.Sorted.{IsStrictlyIncreasing}
use Rattle.byte_ends.specs.Ends.{Rises, one_more}

-- a source in memory
pub record SourceState : Type 0 where
  -- the bytes left
  pub left : List ℕ
  -- the most bytes that one read gives
  pub piece : ℕ
  -- the numbers of the reads that fail
  pub fails : List ℕ
  -- the number of reads made
  pub calls : ℕ
  -- the number of reads that failed
  pub faults : ℕ

-- a sink in memory
pub record SinkState : Type 0 where
  -- the bytes taken
  pub taken : List ℕ
  -- how many more bytes it has room for
  pub room : ℕ
  -- the most bytes that one write takes
  pub piece : ℕ
  -- the numbers of the writes that fail
  pub fails : List ℕ
  -- the number of writes made
  pub calls : ℕ
  -- the number of writes that failed
  pub faults : ℕ

-- the call of this number, counted from 0, is listed to fail; the last number of the counter is never listed
abbrev pub IsListed : List ℕ → ℕ → Type 0
IsListed fails call = (call < 2 ^ 64 - 1) × Contains fails call

-- the least of three numbers
abbrev pub least : ℕ → ℕ → ℕ → ℕ
least a b c = min a (min b c)

-- the place of a source is within its bytes, and a read gives at least one byte if one is left
pub record IsSourceSound (length at piece : ℕ) (fails : List ℕ) : Type 0 where
  pub within : at ≤ length
  pub some : 0 < piece
  pub rising : IsStrictlyIncreasing fails

-- a sink has memory for all its room, and a write takes at least one byte if there is room
pub record IsSinkSound (length room capacity piece : ℕ) (fails : List ℕ) : Type 0 where
  pub fits : length + room ≤ capacity
  pub some : 0 < piece
  pub rising : IsStrictlyIncreasing fails

-- the given bytes are the first of those left, and at most `most`; none are given only if none is left
pub record IsGiven (most : ℕ) (left bytes rest : List ℕ) : Type 0 where
  pub first : left ≡ bytes ++ rest
  pub few : length bytes ≤ most
  pub some : bytes ≡ [] → left ≡ []

-- one read of a source: if it is listed, it fails; otherwise it gives some bytes
abbrev pub ReadsMemory : SourceState → SourceState → Option (List ℕ) → Type 0
ReadsMemory old new None =
    IsListed old.fails old.calls × Rises old.faults new.faults
    × (new ≡ record old { calls = one_more old.calls; faults = one_more old.faults })
ReadsMemory old new (Some bytes) =
    (IsListed old.fails old.calls → ⊥) × (rest : List ℕ) × IsGiven old.piece old.left bytes rest
    × (new ≡ record old { left = rest; calls = one_more old.calls })

-- one write to a sink: if it is listed, or no room is left, it fails; otherwise it takes at least one byte, up to the
-- size of a piece and the room left
abbrev pub WritesMemory : SinkState → SinkState → Option (List ℕ) → Type 0
WritesMemory old new None =
    (IsListed old.fails old.calls ⊎ (old.room ≡ 0)) × Rises old.faults new.faults
    × (new ≡ record old { calls = one_more old.calls; faults = one_more old.faults })
WritesMemory old new (Some bytes) =
    (IsListed old.fails old.calls → ⊥) × (0 < length bytes) × (length bytes ≤ min old.piece old.room)
    × (new ≡ record old {
      taken = old.taken ++ bytes;
      room = old.room - length bytes;
      calls = one_more old.calls;
    })
