-- The hands that the items of a range name, as a player would list them.
use Rattle.std.specs.Prelude.{◌≡◌, ℕ, List, [], length}
use Rattle.range_lines.specs.declared.spot.Weighted.{Weighted}
use Rattle.range_lines.specs.Hands.{hands_of}

-- the hands of a range and their weights, given that there is no board and no dead card
abbrev pub range_of : List ℕ → List Weighted
range_of word = hands_of [] [] word

-- a range has n hands, and they are those of another range with the same weights
pub record IsRangeOf (word : List ℕ) (hands : ℕ) (other : List ℕ) : Type 0 where
  pub count : length (range_of word) ≡ hands
  pub same : range_of word ≡ range_of other
