-- What clauses see of a source over a reader of std and of a sink over a writer of std.
use Rattle.std.proofs.Common.{◌≡◌, ℕ, ◌<◌, List, [], length, Option, Some, None, refl}
use Rattle.std.specs.Io.KnownBytes.{Appends, Consumes, IsAtEnd, Keeps}
use Rattle.byte_ends.specs.Ends.{CountsFault, GivesFirst, Rises, TakesMore, one_more}

-- a source or a sink of std
pub record StdState : Type 0 where
  -- the bytes that the reader still has or the writer contains, if std knows them
  pub known : Option (List ℕ)
  -- the number of calls that failed
  pub faults : ℕ

-- one more call failed, and the known bytes stay
pub record IsFailed (old new : StdState) : Type 0 where
  pub same : Keeps old.known new.known
  pub rises : Rises old.faults new.faults
  pub counted : new.faults ≡ one_more old.faults

-- one read of a reader: it gives the next of the known bytes, and none only at their end
abbrev pub ReadsStd : StdState → StdState → Option (List ℕ) → Type 0
ReadsStd old new None = IsFailed old new
ReadsStd old new (Some bytes) =
    Consumes old.known new.known bytes × (bytes ≡ [] → IsAtEnd new.known) × (new.faults ≡ old.faults)

-- one write to a writer: it appends one byte or more to the known bytes
abbrev pub WritesStd : StdState → StdState → Option (List ℕ) → Type 0
WritesStd old new None = IsFailed old new
WritesStd old new (Some bytes) =
    Appends old.known new.known bytes × (0 < length bytes) × (new.faults ≡ old.faults)

-- what one read and one write do to the known bytes of an end, which has none
pub read_tells : (old new : StdState) (read : Option (List ℕ)) → ReadsStd old new read
    → GivesFirst None None read × CountsFault old.faults new.faults read
read_tells old new None r = (refl, r.rises)
read_tells old new (Some bytes) r = (refl, r.2)

pub write_tells : (old new : StdState) (write : Option (List ℕ)) → WritesStd old new write
    → TakesMore None None write × CountsFault old.faults new.faults write
write_tells old new None w = (refl, w.rises)
write_tells old new (Some bytes) w = (refl, w.2)
