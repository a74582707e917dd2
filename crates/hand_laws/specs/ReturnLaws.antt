-- What comes back of a bet that nobody called.
use Rattle.std.specs.Prelude.{◌≡◌, ◌≢◌, ◌⊎◌, ℕ, ◌-◌, ◌≤◌, true, List, Contains, Option, Some, None}
use Rattle.pot_layers.specs.declared.paid.Paid.{Paid}
use Rattle.pot_layers.specs.Uncalled.{uncalled}
use Rattle.betting_replay.specs.Returns.{hand_sums, return_fits}
use Rattle.betting_replay.specs.Table.{ReplayState}

-- what nobody called, over the whole hand with its antes, may come back
abbrev pub UncalledComesBack : Type 0
UncalledComesBack = (t : ReplayState) (seat units : ℕ) → uncalled (hand_sums t) ≡ Some (seat, units) → return_fits t seat units ≡ true

-- after some units came back to a seat nobody alone has most: no other seat has more than what is left of it, and another one
-- has as much, or nothing is left of it
pub record IsMatched (ps : List Paid) (seat units : ℕ) : Type 0 where
  pub player : Paid
  pub is_in : Contains ps player
  pub own : player.seat ≡ seat
  pub within : units ≤ player.live
  pub most : (other : Paid) → Contains ps other → other.seat ≢ seat → other.live ≤ player.live - units
  pub matched : (player.live - units ≡ 0) ⊎ ((other : Paid) × Contains ps other × (other.seat ≢ seat) × (other.live ≡ player.live - units))

-- where nothing is uncalled each player has another who put in as much or more
abbrev pub IsReachedBy : List Paid → Paid → Type 0
IsReachedBy ps player = (other : Paid) × Contains ps other × (other.seat ≢ player.seat) × (player.live ≤ other.live)

pub record NobodyIsLeftAlone (ps : List Paid) : Type 0 where
  pub some : (seat units : ℕ) → uncalled ps ≡ Some (seat, units) → IsMatched ps seat units
  pub none : uncalled ps ≡ None → (player : Paid) → Contains ps player → IsReachedBy ps player

abbrev pub OthersMatch : Type 0
OthersMatch = (ps : List Paid) → NobodyIsLeftAlone ps
