-- A linear congruential generator of 64 bits, with the multiplier and the increment of Knuth's MMIX.
use Rattle.std.specs.Prelude.{ℕ, zero, suc, ◌+◌, ◌*◌, ◌/◌, ◌%◌, ◌^◌}

-- the next state
unfoldable pub next_state : ℕ → ℕ
next_state x = (x * 6364136223846793005 + 1442695040888963407) % 2 ^ 64

-- the number below m that is drawn at a state, from the upper 31 bits of the next state
unfoldable pub drawn : ℕ → ℕ → ℕ
drawn m x = next_state x / 2 ^ 33 % m

-- the state after n draws
abbrev pub state_after : ℕ → ℕ → ℕ
state_after zero x = x
state_after (suc n) x = state_after n (next_state x)
