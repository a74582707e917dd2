-- The greatest live sum of another seat is within one that no other reaches.
use Rattle.std.proofs.Common.{◌≡◌, ℕ, ◌≤◌, List, [], ◌∷◌, refl, Bool, true, false, ◌==◌, ◌&&◌, ◌||◌, arith}
use Rattle.std.specs.Prelude.{not, max, nat_lt, if◌then◌else◌}
use Rattle.pot_layers.specs.declared.paid.Paid.{Paid}
use Rattle.pot_layers.specs.Uncalled.{is_reached, rival}

less : (a b : ℕ) → nat_lt a b ≡ true → a ≤ b
less a b h = grind arith

pub rival_within : (ps : List Paid) (seat live : ℕ) → is_reached ps seat live ≡ false → rival ps seat ≤ live
rival_within [] seat live h = grind arith
rival_within (p ∷ ps) seat live h = by (p.seat == seat) refl (nat_lt p.live live) refl h (rival_within ps seat live)
  where
    by : (b : Bool) → (p.seat == seat) ≡ b → (c : Bool) → nat_lt p.live live ≡ c → ((not b && not c) || is_reached ps seat live) ≡ false → (is_reached ps seat live ≡ false → rival ps seat ≤ live) → (if b then rival ps seat else max p.live (rival ps seat)) ≤ live
    by true e c d h go = go h
    by false e true d h go = (let low : p.live ≤ live = less _ _ d in let rest : rival ps seat ≤ live = go h in grind arith)
    by false e false d h go = cc
