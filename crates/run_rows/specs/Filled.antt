-- The effect of one read of a source whose bytes are unknown and which never fails, and of one
-- write of such a sink.
use Rattle.std.proofs.Common.{◌≡◌, ℕ, List, Option, Some, None, refl}
use Rattle.byte_ends.specs.Ends.{CountsFault, GivesFirst, TakesMore}

abbrev pub ReadsFilled : Option (List ℕ) → Type 0
ReadsFilled None = ⊥
ReadsFilled (Some bytes) = Unit {0}

pub filled_tells : (read : Option (List ℕ)) → ReadsFilled read → GivesFirst None None read × CountsFault 0 0 read
filled_tells None given = absurd given
filled_tells (Some bytes) given = (refl, refl)

abbrev pub WritesFilled : Option (List ℕ) → Type 0
WritesFilled None = ⊥
WritesFilled (Some bytes) = Unit {0}

pub counted_tells : (write : Option (List ℕ)) → WritesFilled write → TakesMore None None write × CountsFault 0 0 write
counted_tells None taken = absurd taken
counted_tells (Some bytes) taken = (refl, refl)
