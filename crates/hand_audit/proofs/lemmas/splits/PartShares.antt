-- What the shares of a part are, and of the two parts of a hand that is run twice.
use Rattle.std.proofs.Common.{◌≡◌, ℕ, zero, suc, ◌+◌, ◌<◌, List, [], ◌∷◌, refl, sym, ap, ◌∙◌, subst, Bool, true, false, ◌==◌, length, arith}
use Rattle.std.specs.Int.{bit_at}
use Rattle.std.specs.List.{list_any}
use Rattle.std.proofs.lemmas.Nat.Bits.{bit_at-zero}
use Rattle.card_sets.specs.PlayerSetLaws.{has_player-where}
use Rattle.card_sets.specs.PlayerSets.{players_where, seats_in}
use Rattle.pot_layers.specs.Split.{InRange, IsOrder, OrdersItsSeats, shares, shares_from, sides_won}
use Rattle.hand_audit.specs.Settle.{Showing, Part, set_of, is_alone, first_winners, second_winners, first_side, second_side, side_winners, shares_by, shares_among, order_of}
use Rattle.hand_audit.proofs.lemmas.seats.SeatLists.{differ_from, range_from}
use Rattle.hand_audit.proofs.lemmas.splits.Winners.{no_winners}

-- who has no bit has no part
nobody_from : (units : ℕ) (order other : List ℕ) (seat n : ℕ) → shares_from units 0 0 order other seat n ≡ []
nobody_from units order other seat zero = refl
nobody_from units order other seat (suc n) =
    let zero_won : sides_won 0 0 seat ≡ 0 = (let z : bit_at 0 seat ≡ 0 = bit_at-zero seat in rw z refl) in
    rw zero_won (nobody_from units order other (seat + 1) n)

pub nobody_shares : (units : ℕ) (order other : List ℕ) → shares units 0 0 order other ≡ []
unfolding shares
nobody_shares units order other = nobody_from units order other 1 10

pub no_shares : (s : Showing) (part : Part) (eligible : ℕ) → seats_in eligible ≡ [] → [] ≡ shares_by s part (first_winners s part.board eligible) (second_winners s part.board eligible)
unfolding shares_by first_winners second_winners
no_shares s part eligible nowhere =
    let first_order = order_of (first_side s.game) s part.board in
    let second_order = order_of (second_side s.game) s part.board in
    let first : side_winners (first_side s.game) s part.board eligible ≡ 0 = no_winners (first_side s.game) s part.board eligible nowhere in
    let second : side_winners (second_side s.game) s part.board eligible ≡ 0 = no_winners (second_side s.game) s part.board eligible nowhere in
    sym (nobody_shares part.units (first_order 0) (second_order 0)) ∙ ap (λ f. shares part.units f 0 (first_order f) (second_order 0)) (sym first)
    ∙ ap (λ g. shares part.units (side_winners (first_side s.game) s part.board eligible) g (first_order (side_winners (first_side s.game) s part.board eligible)) (second_order g)) (sym second)

-- a set that some seat is in isn't empty
pub has_some : (f : ℕ → Bool) (p : ℕ) → p < 11 → f p ≡ true → 0 < players_where f 11
has_some f p l passes = by (players_where f 11) refl
  where
    by : (n : ℕ) → players_where f 11 ≡ n → 0 < n
    by zero e =
        let z : bit_at 0 p ≡ 0 = bit_at-zero p in
        let off : (bit_at 0 p == 1) ≡ false = rw z refl in
        let on : (bit_at 0 p == 1) ≡ true = ap (λ w. bit_at w p == 1) (sym e) ∙ has_player-where f 11 p l ∙ passes in cc
    by (suc n) e = omega arith

-- the set of one seat isn't
one_some : (xs : List ℕ) → (length xs == 1) ≡ true → InRange xs → 0 < set_of xs
one_some [] one r = cc
one_some (p ∷ xs) one r = has_some (λ q. list_any (λ s. s == q) (p ∷ xs)) p (omega (arith, r.1)) (let same : (p == p) ≡ true = grind arith in rw same refl)

alone_some : (eligible : ℕ) → is_alone eligible ≡ true → 0 < set_of (seats_in eligible)
alone_some eligible one = one_some (seats_in eligible) one (range_from eligible 1 10 (omega arith) (omega arith))

pub some_alone : (eligible high : ℕ) → is_alone eligible ≡ true → high ≡ set_of (seats_in eligible) → 0 < high
some_alone eligible high one is = let h : 0 < set_of (seats_in eligible) = alone_some eligible one in rw is h

pub order_alone : OrdersItsSeats → (eligible high : ℕ) (order : List ℕ) → high ≡ set_of (seats_in eligible) → order ≡ seats_in eligible → IsOrder high order
order_alone law eligible high order is are =
    subst (λ (w : ℕ). IsOrder w order) (sym is) (subst (λ (xs : List ℕ). IsOrder (set_of (seats_in eligible)) xs) (sym are) (law (seats_in eligible) (differ_from eligible 1 10) (range_from eligible 1 10 (omega arith) (omega arith))))

pub order_nobody : (order : List ℕ) → order ≡ [] → IsOrder 0 order
order_nobody order is = subst (λ (xs : List ℕ). IsOrder 0 xs) (sym is) (record { once = tt; seats = tt; each = λ seat. (let z : bit_at 0 seat ≡ 0 = bit_at-zero seat in rw z refl); none = λ e. refl })

pub if_others : (s : Showing) (eligible : ℕ) (part : Part) → is_alone eligible ≡ false → shares_by s part (first_winners s part.board eligible) (second_winners s part.board eligible) ≡ shares_among (is_alone eligible) s eligible part
if_others s eligible part others = ap (λ b. shares_among b s eligible part) (sym others)
