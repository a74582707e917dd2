-- The orders in which odd units are given. Source: in games with a board and with a draw after the rules of the TDA; that by marks is
-- this project's own.
use Rattle.std.specs.Prelude.{◌≡◌, ◌<◌, ◌^◌, ℕ, zero, suc, ◌+◌, ◌-◌, ◌==◌, List, [], ◌++◌, filter}
use Rattle.std.specs.Int.{bit_at}
use Rattle.card_sets.specs.PlayerSets.{players_from}

-- the winners above the button, rising, and then the others from seat 1, rising; without a button (0) all from seat 1
abbrev pub odd_order : ℕ → ℕ → List ℕ
odd_order button winners = players_from winners (button + 1) (10 - button) ++ players_from winners 1 button

-- some seats whose marks are below n, higher marks first
abbrev pub by_marks_below : (ℕ → ℕ) → List ℕ → ℕ → List ℕ
by_marks_below mark seats zero = []
by_marks_below mark seats (suc n) = filter (λ p. mark p == n) seats ++ by_marks_below mark seats n

-- the winners by their marks, each of which is below 52, higher marks first
unfoldable pub by_marks : (ℕ → ℕ) → List ℕ → List ℕ
by_marks mark winners = by_marks_below mark winners 52

-- a set of seats of the table
pub record OfSeats (seats : ℕ) : Type 0 where
  pub small : seats < 2 ^ 11
  pub first : bit_at seats 0 ≡ 0
