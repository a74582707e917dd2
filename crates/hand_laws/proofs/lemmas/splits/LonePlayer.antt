-- Who is alone in a pot is due all of it, and wins a side of each part: `law_a_lone_player_wins_a_side_of_each_part`.
use Rattle.std.proofs.Common.{◌≡◌, ℕ, ◌≤◌, [], ◌∷◌, sym, ap, ◌∙◌, subst, true, false, ◌==◌, ◌||◌, length, arith}
use Rattle.card_sets.specs.PlayerSets.{seats_in}
use Rattle.pot_layers.specs.declared.paid.Pot.{Pot}
use Rattle.pot_layers.specs.Split.{InRange, is_among}
use Rattle.hand_audit.specs.declared.pot_names.Source.{Source}
use Rattle.hand_audit.specs.Settle.{Showing, due_of_seat, is_alone, is_checked, net_of, parts_of, shares_if, shares_of_parts, shares_of_pot, sides_of_seat}
use Rattle.hand_laws.specs.Splits.{IsDueAll}
use Rattle.hand_audit.proofs.CallerLemmas.{checked_alone, lone_parts, of_sides, of_units, pick, range_from}

seat_range : (eligible p : ℕ) → seats_in eligible ≡ p ∷ [] → (1 ≤ p) × (p ≤ 10)
seat_range eligible p is = let range = subst InRange is (range_from eligible 1 10 (omega arith) (omega arith)) in (range.0, range.1)

same : (p : ℕ) → (p == p) ≡ true
same p = grind arith

here : (eligible p : ℕ) → seats_in eligible ≡ p ∷ [] → is_among p (seats_in eligible) ≡ true
here eligible p is = ap (is_among p) is ∙ ap (λ b. b || false) (same p)

pub due_all : (s : Showing) (source : Source) (pot : Pot) (p : ℕ) → seats_in pot.eligible ≡ p ∷ [] → IsDueAll s source pot p
unfolding shares_of_pot
due_all s source pot p is =
    let alone : is_alone pot.eligible ≡ true = ap (λ xs. length xs == 1) is in
    let range = seat_range pot.eligible p is in
    let mine = here pot.eligible p is in
    let net = net_of s source in
    let all : shares_of_parts s pot.eligible (parts_of s net) ≡ shares_if (is_checked s pot.eligible) s pot.eligible (parts_of s net)
    = ap (λ b. shares_if b s pot.eligible (parts_of s net)) (checked_alone s pot.eligible alone) in
    record {
      due = ap (due_of_seat p) (sym all) ∙ lone_parts (λ units sides. units) s pot.eligible p net s.second of_units alone range.0 range.1 ∙ ap (λ b. pick b net) mine;
      sides = ap (sides_of_seat p) (sym all) ∙ lone_parts (λ units sides. sides) s pot.eligible p net s.second of_sides alone range.0 range.1 ∙ ap (λ b. pick b (length (parts_of s net))) mine;
    }
