-- The order in which seats get odd units lists the winners, each once.
use Rattle.std.proofs.Common.{◌≡◌, ℕ, ◌+◌, ◌-◌, ◌<◌, ◌≤◌, refl, sym, ap, ◌∙◌, Bool, true, false, ◌==◌, ◌&&◌, ◌||◌, arith}
use Rattle.std.specs.Prelude.{nat_le, nat_lt}
use Rattle.std.specs.Int.{bit_at}
use Rattle.std.proofs.lemmas.List.Folds.{list_any-append}
use Rattle.std.proofs.lemmas.Nat.Bits.{bit_at-lt, bit_at-zero, same_from_bits}
use Rattle.card_sets.specs.PlayerSetLaws.{among-players_from}
use Rattle.card_sets.specs.PlayerSets.{players_from}
use Rattle.pot_layers.specs.Split.{is_among, IsOrder}
use Rattle.hand_audit.specs.Orders.{odd_order, OfSeats}
use Rattle.hand_audit.proofs.lemmas.seats.SeatLists.{differ_from, range_from, differ_both, range_both, seat_of_bit}

no_bit : (a b c d : Bool) → ((a && b && false) || (c && d && false)) ≡ false
no_bit a b c d = rw (off a b, off c d) refl
  where
    off : (x y : Bool) → (x && y && false) ≡ false
    off true true = refl
    off true false = refl
    off false y = refl

each_in : (button w : ℕ) → button ≤ 10 → OfSeats w → (seat : ℕ) → is_among seat (odd_order button w) ≡ (bit_at w seat == 1)
each_in button w h of seat =
    list_any-append (λ s. s == seat) (players_from w (button + 1) (10 - button)) (players_from w 1 button)
    ∙ rw (among-players_from w (button + 1) (10 - button) seat, among-players_from w 1 button seat) (both (bit_at w seat == 1) refl)
  where
    by_side : (1 ≤ seat) × (seat < 11) → (a : Bool) → nat_le (button + 1) seat ≡ a → ((a && nat_lt seat ((button + 1) + (10 - button)) && true) || (nat_le 1 seat && nat_lt seat (1 + button) && true)) ≡ true
    by_side seats true ea = let few = seats.1 in let b : nat_lt seat ((button + 1) + (10 - button)) ≡ true = (let l : seat < (button + 1) + (10 - button) = omega (arith, few, h) in grind arith) in rw b refl
    by_side seats false ea = let some = seats.0 in let c : nat_le 1 seat ≡ true = grind arith in let d : nat_lt seat (1 + button) ≡ true = (let l : seat < 1 + button = grind arith in grind arith) in rw (c, d) refl

    both : (e : Bool) → (bit_at w seat == 1) ≡ e → ((nat_le (button + 1) seat && nat_lt seat ((button + 1) + (10 - button)) && e) || (nat_le 1 seat && nat_lt seat (1 + button) && e)) ≡ e
    both false ee = no_bit (nat_le (button + 1) seat) (nat_lt seat ((button + 1) + (10 - button))) (nat_le 1 seat) (nat_lt seat (1 + button))
    both true ee = by_side (seat_of_bit w seat of ee) (nat_le (button + 1) seat) refl

pub ordered : (button w : ℕ) → button ≤ 10 → OfSeats w → IsOrder w (odd_order button w)
ordered button w h of = record {
  once = differ_both _ _ (differ_from w (button + 1) (10 - button)) (differ_from w 1 button) apart;
  seats = range_both _ _ (range_from w (button + 1) (10 - button) (omega arith) (omega arith)) (range_from w 1 button (omega arith) (omega arith));
  each = each_in button w h of;
  none = λ e. same_from_bits w 0 (λ i.
      let no : (bit_at w i == 1) ≡ false = sym (each_in button w h of i) ∙ ap (is_among i) e in
      let l = bit_at-lt w i in let z : bit_at w i ≡ 0 = grind (arith, l) in z ∙ sym (bit_at-zero i));
}
  where
    first_true : (x y z : Bool) → (x && y && z) ≡ true → x ≡ true
    first_true true y z e = refl
    first_true false y z e = cc

    second_false : (x y : Bool) → (x && false && y) ≡ false
    second_false true y = refl
    second_false false y = refl

    apart : (s : ℕ) → is_among s (players_from w (button + 1) (10 - button)) ≡ true → is_among s (players_from w 1 button) ≡ false
    apart s h' =
        let a : nat_le (button + 1) s ≡ true = first_true (nat_le (button + 1) s) (nat_lt s ((button + 1) + (10 - button))) (bit_at w s == 1) (sym (among-players_from w (button + 1) (10 - button) s) ∙ h') in
        let b : nat_lt s (1 + button) ≡ false = grind arith in
        among-players_from w 1 button s ∙ rw b (second_false (nat_le 1 s) (bit_at w s == 1))
