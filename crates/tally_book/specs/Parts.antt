-- The part of one worker in a count.
use Rattle.std.specs.Prelude.{ℕ, ◌/◌, ◌%◌, ◌==◌, Bool, List, replicate, slice_index}
use Rattle.std.specs.Int.{bit_at}
use Rattle.tally_book.specs.declared.limits.TheConstants.{WORDS}

-- what clauses see of a part: its parts of the ledger, the number of its fresh posts, and the set of the blocks handed
-- in with it, one bit for each block
pub record Hand : Type 0 where
  pub parts : ℕ
  pub amount : ℕ
  pub words : List ℕ

-- whether a block was handed in
abbrev pub is_handed : Hand → ℕ → Bool
is_handed hand block = bit_at (slice_index hand.words (block / 64)) (block % 64) == 1

-- the words without a block
abbrev pub no_blocks : List ℕ
no_blocks = replicate WORDS 0
