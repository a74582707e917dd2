-- The seats of a set: how many there are, and who is among them.
use Rattle.std.proofs.Common.{◌≡◌, ℕ, zero, suc, ◌+◌, ◌<◌, ◌≤◌, ◌∷◌, length, refl, sym, ◌∙◌, Bool, true, false, ◌==◌, ◌&&◌, arith}
use Rattle.std.specs.Prelude.{nat_le, nat_lt, if◌then◌else◌}
use Rattle.std.specs.Int.{bit_at}
use Rattle.std.specs.List.{list_any}
use Rattle.std.proofs.lemmas.Nat.Bits.{bit_at-lt}
use Rattle.card_sets.specs.PlayerSetLaws.{among-players_from, has_player-where, players_where-same, players_where-small}
use Rattle.card_sets.specs.PlayerSets.{has_player, players_from, players_where, seats_in}
use Rattle.hand_audit.specs.Orders.{OfSeats}
use Rattle.hand_audit.specs.Settle.{set_of}
use Rattle.hand_audit.specs.Winning.{is_seat_in}

-- the set of those who pass a test that seat 0 fails
no_bit : (n : ℕ) → n < 2 → (n == 1) ≡ false → n ≡ 0
no_bit n l e = grind arith

pub of_seats : (f : ℕ → Bool) → f 0 ≡ false → OfSeats (players_where f 11)
of_seats f none = record { small = players_where-small f 11; first = no_bit (bit_at (players_where f 11) 0) (bit_at-lt (players_where f 11) 0) (has_player-where f 11 0 (omega arith) ∙ none) }

-- who is among the seats of a set
in_range : (s p : ℕ) → p < 11 → (nat_le 1 p && nat_lt p (1 + 10) && has_player s p) ≡ is_seat_in s p
in_range s p l =
    let a : nat_le 1 p ≡ nat_lt 0 p = grind arith in
    let b : nat_lt p (1 + 10) ≡ true = grind arith in
    rw (a, b) (middle (nat_lt 0 p) (has_player s p))
  where
    middle : (x y : Bool) → (x && true && y) ≡ (x && y)
    middle true y = refl
    middle false y = refl

pub among_seats : (s p : ℕ) → p < 11 → list_any (λ q. q == p) (seats_in s) ≡ is_seat_in s p
among_seats s p l = among-players_from s 1 10 p ∙ in_range s p l

pub set_of_seats : (s : ℕ) → players_where (is_seat_in s) 11 ≡ set_of (seats_in s)
set_of_seats s = players_where-same (is_seat_in s) (λ p. list_any (λ q. q == p) (seats_in s)) 11 (λ p l. sym (among_seats s p l))

-- there are no more than ten
few_from : (s p n : ℕ) → length (players_from s p n) ≤ n
few_from s p zero = omega arith
few_from s p (suc n) = by (has_player s p) (few_from s (p + 1) n)
  where
    by : (b : Bool) → length (players_from s (p + 1) n) ≤ n → length (if b then p ∷ players_from s (p + 1) n else players_from s (p + 1) n) ≤ suc n
    by true l = omega (arith, l)
    by false l = omega (arith, l)

pub few_seats : (s : ℕ) → length (seats_in s) ≤ 10
few_seats s = few_from s 1 10
