-- Lines that are being written, in whichever form.
use Rattle.std.specs.Prelude.{ℕ, Bool, false, List, [], ◌∷◌}

pub record Progress : Type 0 where
  -- the bytes of the whole lines, and of the next line's words so far
  pub bytes : List ℕ
  -- whether the next line has a word
  pub begun : Bool
  -- how many more words a record takes before its name
  pub left : ℕ

-- no line, and no word
abbrev pub nothing_yet : Progress
nothing_yet = record { bytes = []; begun = false; left = 12 }

-- the first of some, or no line if the list is empty
abbrev pub first_of : List Progress → Progress
first_of [] = nothing_yet
first_of (first ∷ later) = first
