-- What a source and a sink of bytes do.
use Rattle.std.specs.Prelude.{◌≡◌, ℕ, ◌+◌, ◌-◌, ◌<◌, ◌≤◌, ◌^◌, List, [], ◌∷◌, ◌++◌, take, drop, length, min, Option, Some, None, Result, Ok, Err, ◌⊎◌}
use Rattle.std.specs.List.{concat}
use Rattle.byte_ends.specs.declared.Failed.{Failed}

-- the count of faults rose, or is the greatest of its type
abbrev pub Rises : ℕ → ℕ → Type 0
Rises old new = (old < new) ⊎ (old ≡ 2 ^ 64 - 1) × (new ≡ old)

-- one more fault, unless the count is the greatest of its type
abbrev pub one_more : ℕ → ℕ
one_more count = min (count + 1) (2 ^ 64 - 1)

-- n bytes of what was left are now the first n of the piece, and are no longer left; if the bytes are unknown, they
-- stay unknown
abbrev pub Reads : Option (List ℕ) → Option (List ℕ) → List ℕ → List ℕ → ℕ → Type 0
Reads None new before after n = new ≡ None
Reads (Some left) new before after n =
    (new ≡ Some (drop n left)) × (take n after ≡ take n left) × (n ≤ length left)
    × (0 < length before → n ≡ 0 → left ≡ [])

-- n bytes of the piece were taken
abbrev pub Takes : Option (List ℕ) → Option (List ℕ) → List ℕ → ℕ → Type 0
Takes None new piece n = new ≡ None
Takes (Some taken) new piece n = new ≡ Some (taken ++ take n piece)

-- all of the piece was taken
abbrev pub WritesAll : Option (List ℕ) → Option (List ℕ) → List ℕ → Type 0
WritesAll None new piece = new ≡ None
WritesAll (Some taken) new piece = new ≡ Some (taken ++ piece)

-- a prefix of the piece was taken, perhaps none of it or all
abbrev pub WritesFront : Option (List ℕ) → Option (List ℕ) → List ℕ → Type 0
WritesFront None new piece = new ≡ None
WritesFront (Some taken) new piece =
    (n : ℕ) × (n ≤ length piece) × (new ≡ Some (taken ++ take n piece))

-- the bytes that a call moved, which are the first of the piece; none if it failed
abbrev pub moved_by : Result ℕ Failed → List ℕ → Option (List ℕ)
moved_by (Ok n) piece = Some (take n piece)
moved_by (Err _) piece = None

-- what one call does to the count of faults
abbrev pub CountsFault : ℕ → ℕ → Option (List ℕ) → Type 0
CountsFault old new (Some _) = new ≡ old
CountsFault old new None = Rises old new

-- what one read does to the bytes left, if they are known: it gives the first of them, and gives none only if none is
-- left; or it fails and they stay
abbrev pub GivesFirst : Option (List ℕ) → Option (List ℕ) → Option (List ℕ) → Type 0
GivesFirst None new read = new ≡ None
GivesFirst (Some left) new None = new ≡ Some left
GivesFirst (Some left) new (Some bytes) =
    (rest : List ℕ) × (new ≡ Some rest) × (left ≡ bytes ++ rest) × (bytes ≡ [] → left ≡ [])

-- what one write does to the bytes taken, if they are known: it appends some, or it fails and they stay
abbrev pub TakesMore : Option (List ℕ) → Option (List ℕ) → Option (List ℕ) → Type 0
TakesMore None new write = new ≡ None
TakesMore (Some taken) new None = new ≡ Some taken
TakesMore (Some taken) new (Some bytes) = new ≡ Some (taken ++ bytes)

-- writes of one byte or more, one after another, lead from the first sink to the second
abbrev pub WritesOn : {K : Type 0} → (K → K → Option (List ℕ) → Type 0) → K → List (List ℕ) → K → Type 0
WritesOn writes old [] new = new ≡ old
WritesOn {K} writes old (piece ∷ later) new =
    (mid : K) × (0 < length piece) × writes old mid (Some piece) × WritesOn writes mid later new

-- writes of a piece, one after another: they take all of it, or the last one fails with some of it left
abbrev pub WritesOut : {K : Type 0} → (K → K → Option (List ℕ) → Type 0) → K → K → List ℕ → Result (Unit {0}) Failed → Type 0
WritesOut writes old new piece (Ok _) = (parts : List (List ℕ)) × (concat parts ≡ piece) × WritesOn writes old parts new
WritesOut {K} writes old new piece (Err _) =
    (parts : List (List ℕ)) × (left : List ℕ) × (mid : K) × (0 < length left) × (concat parts ++ left ≡ piece)
    × WritesOn writes old parts mid × writes mid new None
