-- A list of different seats is an order of those that it lists.
use Rattle.std.proofs.Common.{◌≡◌, ℕ, ◌<◌, ◌≤◌, List, [], ◌∷◌, refl, sym, ap, ◌∙◌, Bool, true, false, ◌==◌, arith}
use Rattle.std.specs.Prelude.{nat_lt}
use Rattle.card_sets.specs.PlayerSets.{has_player, players_where}
use Rattle.card_sets.specs.PlayerSetLaws.{players_where-small, has_player-where, has_player-above}
use Rattle.pot_layers.specs.Split.{is_among, Differ, InRange, IsOrder}

-- no seat above the last is in an order
out_of_range : (order : List ℕ) (seat : ℕ) → InRange order → 11 ≤ seat → is_among seat order ≡ false
out_of_range [] seat r h = refl
out_of_range (s ∷ order) seat r h =
    let few : s ≤ 10 = r.1 in
    let other : (s == seat) ≡ false = grind arith in
    rw other (out_of_range order seat r.2 h)

listed : (order : List ℕ) → InRange order → (seat : ℕ) → is_among seat order ≡ has_player (players_where (λ s. is_among s order) 11) seat
listed order r seat = one (nat_lt seat 11) refl
  where
    one : (b : Bool) → nat_lt seat 11 ≡ b → is_among seat order ≡ has_player (players_where (λ s. is_among s order) 11) seat
    one true e = let low : seat < 11 = grind arith in sym (has_player-where (λ s. is_among s order) 11 seat low)
    one false e =
        let high : 11 ≤ seat = grind arith in
        out_of_range order seat r high ∙ sym (has_player-above (players_where (λ s. is_among s order) 11) 11 seat (players_where-small (λ s. is_among s order) 11) high)

pub orders_its_seats : (order : List ℕ) → Differ order → InRange order → IsOrder (players_where (λ seat. is_among seat order) 11) order
orders_its_seats order d r = record {
  once = d;
  seats = r;
  each = listed order r;
  none = (λ is. ap (λ xs. players_where (λ seat. is_among seat xs) 11) is);
}
