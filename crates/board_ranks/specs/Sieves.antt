-- Pairs of last cards, parted by whether somebody may have a flush with them.
use Rattle.std.specs.Prelude.{◌≡◌, ℕ, ◌≤◌, Bool, not, List, filter, length, map, nat_lt, slice_index, take}
use Rattle.std.specs.List.{count_by}
use Rattle.board_ranks.specs.declared.pair.Pair.{Pair}

-- a table of suits, by the suits of two cards, names none for a pair: with its cards nobody has a flush
abbrev pub is_plain : List ℕ → Pair → Bool
is_plain suits pair = nat_lt 3 (slice_index suits pair.suits)

-- it names one, of which somebody may have a flush
abbrev pub is_flush : List ℕ → Pair → Bool
is_flush suits pair = not (is_plain suits pair)

-- those of some pairs for which it names none, in their order
unfoldable pub plain_pairs : List ℕ → List Pair → List Pair
plain_pairs suits pairs = filter (is_plain suits) pairs

-- their ranks
abbrev pub plain_ranks : List ℕ → List Pair → List ℕ
plain_ranks suits pairs = map (λ pair. pair.ranks) (plain_pairs suits pairs)

-- the others, in their order
unfoldable pub flush_pairs : List ℕ → List Pair → List Pair
flush_pairs suits pairs = filter (is_flush suits) pairs

-- pairs are parted: one list begins with the ranks of those for which the table names none, another with those for which it names one,
-- and a third says for each place of the pairs how many of the former stand before it
pub record IsParted (suits : List ℕ) (pairs : List Pair) (plain : List ℕ) (flush : List Pair) (before : List ℕ) : Type 0 where
  pub plain_is : take (count_by (is_plain suits) pairs) plain ≡ plain_ranks suits pairs
  pub flush_is : take (count_by (is_flush suits) pairs) flush ≡ flush_pairs suits pairs
  pub before_is : (place : ℕ) → place ≤ length pairs → slice_index before place ≡ count_by (is_plain suits) (take place pairs)
