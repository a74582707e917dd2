-- Which players may win a pot.
use Rattle.std.specs.Prelude.{◌≡◌, ℕ, ◌==◌, ◌&&◌, Bool, false, List, All}
use Rattle.std.specs.List.{list_any}
use Rattle.card_sets.specs.PlayerSets.{has_player}
use Rattle.pot_layers.specs.declared.paid.Paid.{Paid}
use Rattle.pot_layers.specs.Pots.{pots}

-- the seat is that of a contender
abbrev pub is_contender : List Paid → ℕ → Bool
is_contender ps seat = list_any (λ p. (p.seat == seat) && p.contender) ps

-- no seat without a contender is eligible for a pot, so no player who has folded is
abbrev pub ExcludesFolded : Type 0
ExcludesFolded = (ps : List Paid) (seat : ℕ) → is_contender ps seat ≡ false → All (λ pot. has_player pot.eligible seat ≡ false) (pots ps)
