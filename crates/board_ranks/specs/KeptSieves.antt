-- Sieves that are kept.
use Rattle.std.specs.Prelude.{◌≡◌, ℕ, List, slice_get, Some}
use Rattle.board_ranks.specs.Sieves.{IsParted}
use Rattle.board_ranks.specs.declared.pair.Pair.{Pair}
use Rattle.board_ranks.specs.declared.sieve.Sieve.{Sieve}

-- a sieve parts these pairs by its table
abbrev pub IsSieve : List Pair → Sieve → Type 0
IsSieve pairs sieve = IsParted sieve.suits pairs sieve.plain sieve.flush sieve.before

-- each does so
abbrev pub AreSieves : List Pair → List Sieve → Type 0
AreSieves pairs sieves = (i : ℕ) (sieve : Sieve) → slice_get sieves i ≡ Some sieve → IsSieve pairs sieve
