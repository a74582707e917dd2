-- What one read of a text in memory does: it gives the first bytes of what is left, none only where none is left, and never fails.
use Rattle.std.proofs.Common.{◌≡◌, ℕ, List, [], ◌++◌, Option, Some, None, refl}
use Rattle.byte_ends.specs.Ends.{CountsFault, GivesFirst}

abbrev pub ReadsText : List ℕ → List ℕ → Option (List ℕ) → Type 0
ReadsText old new None = ⊥
ReadsText old new (Some bytes) = (old ≡ bytes ++ new) × (bytes ≡ [] → old ≡ [])

pub text_tells : (old new : List ℕ) (read : Option (List ℕ)) → ReadsText old new read → GivesFirst (Some old) (Some new) read × CountsFault 0 0 read
text_tells old new None r = absurd r
text_tells old new (Some bytes) r = ((new, refl, r.0, r.1), refl)
