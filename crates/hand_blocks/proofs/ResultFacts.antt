-- The players of a hand, one seat after another.
use Rattle.std.proofs.Common.{◌≡◌, ℕ, suc, ◌+◌, ◌-◌, ◌<◌, ◌∷◌, refl, true, false, arith}
use Rattle.card_sets.specs.PlayerSets.{has_player, players_from}

pub player_passed : (set p : ℕ) → has_player set p ≡ false → p < 11 → players_from set p (11 - p) ≡ players_from set (p + 1) (11 - (p + 1))
player_passed set p none below = let more : 11 - p ≡ suc (11 - (p + 1)) = omega arith in rw (more, none) refl

pub player_first : (set p : ℕ) → has_player set p ≡ true → p < 11 → players_from set p (11 - p) ≡ p ∷ players_from set (p + 1) (11 - (p + 1))
player_first set p some below = let more : 11 - p ≡ suc (11 - (p + 1)) = omega arith in rw (more, some) refl
