-- What clauses see of a source that repeats one line, and what its type keeps.
use Rattle.std.proofs.Common.{◌≡◌, ℕ, zero, suc, ◌+◌, ◌<◌, ◌%◌, ◌^◌, List, [], ◌∷◌, slice_index_or, Option, Some, None, ap, refl}
use Rattle.byte_ends.specs.Ends.{CountsFault, GivesFirst}
use Rattle.byte_ends.specs.Memory.{IsGiven}

-- n bytes of a line of 64 bytes that is repeated; the first byte has the given number
abbrev pub repeated : List ℕ → ℕ → ℕ → List ℕ
repeated line number zero = []
repeated line number (suc count) = slice_index_or line (number % 64) 0 ∷ repeated line (suc number) count

-- a source that repeats a line
pub record RepeatState : Type 0 where
  -- the bytes left
  pub left : List ℕ
  -- the most bytes that one read gives
  pub piece : ℕ

-- the number of all bytes, given or left, fits its type, and a read gives at least one byte if one is left
pub record IsRepeatSound (given left piece : ℕ) : Type 0 where
  pub few : given + left < 2 ^ 64
  pub some : 0 < piece

-- one read, which gives some bytes and never fails
abbrev pub ReadsRepeat : RepeatState → RepeatState → Option (List ℕ) → Type 0
ReadsRepeat old new None = ⊥
ReadsRepeat old new (Some bytes) =
    (rest : List ℕ) × IsGiven old.piece old.left bytes rest × (new ≡ record old { left = rest })

-- what one read does to the known bytes
pub read_tells : (old new : RepeatState) (read : Option (List ℕ)) → ReadsRepeat old new read
    → GivesFirst (Some old.left) (Some new.left) read × CountsFault 0 0 read
read_tells old new None r = absurd r
read_tells old new (Some bytes) r = ((r.0, ap (λ (s : RepeatState). Some s.left) r.2, r.1.first, r.1.some), refl)
