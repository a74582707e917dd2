-- The order of odd units goes to the left of the button, or down by the marks: `law_odd_units_go_in_order`.
use Rattle.std.proofs.Common.{◌≡◌, ℕ, zero, suc, ◌+◌, ◌-◌, ◌<◌, ◌≤◌, nat_lt, Bool, true, false, ◌==◌, List, [], ◌∷◌, ◌++◌, filter, refl, arith, ap, sym, subst, ◌∙◌, Option, if◌then◌else◌}
use Rattle.card_sets.specs.PlayerSets.{seats_in}
use Rattle.card_sets.specs.PlayerSets.{has_player, players_from}
use Rattle.card_sets.specs.Games.{has_marks}
use Rattle.card_sets.specs.declared.games.Side.{Side}
use Rattle.hand_audit.specs.Orders.{by_marks, by_marks_below, odd_order}
use Rattle.hand_audit.specs.Settle.{Showing, mark_at, order_of}
use Rattle.hand_laws.specs.OddLaws.{GoesDown, GoesLeft, IsOddOrder, OddUnitsGoInOrder, places_left}

above : (button seat : ℕ) → button < seat → places_left button seat ≡ seat - button
above button seat more = search arith

below : (button seat : ℕ) → seat ≤ button → places_left button seat ≡ seat + 10 - button
below button seat less = search arith

sooner : (button a b : ℕ) (seats : List ℕ) → a ≤ b → GoesLeft button b seats → GoesLeft button a seats
sooner button a b [] few g = g
sooner button a b (seat ∷ later) few g = (let m = g.0 in omega (arith, m, few), g.1)

at_or_below : (button winners p n from : ℕ) → p + n ≤ button + 1 → button ≤ 10 → from < p + 10 - button → GoesLeft button from (players_from winners p n)
at_or_below button winners p zero from few ten less = tt
at_or_below button winners p (suc n) from few ten less =
    by (has_player winners p) refl (λ next far. at_or_below button winners (p + 1) n next (omega (arith, few)) ten far)
  where
    here : places_left button p ≡ p + 10 - button
    here = below button p (omega (arith, few))

    by : (b : Bool) → has_player winners p ≡ b → ((next : ℕ) → next < (p + 1) + 10 - button → GoesLeft button next (players_from winners (p + 1) n)) → GoesLeft button from (players_from winners p (suc n))
    by true is later = rw is (omega (arith, less, here), later (places_left button p) (omega (arith, here, few, ten)))
    by false is later = rw is (later from (omega (arith, less, few, ten)))

from_left : (button winners p n from : ℕ) (rest : List ℕ) → button < p → p + n ≤ 11 → from < p - button → GoesLeft button (10 - button) rest → GoesLeft button from (players_from winners p n ++ rest)
from_left button winners p zero from rest more few less g = sooner button from (10 - button) rest (omega (arith, more, few, less)) g
from_left button winners p (suc n) from rest more few less g =
    by (has_player winners p) refl (λ next far. from_left button winners (p + 1) n next rest (omega (arith, more)) (omega (arith, few)) far g)
  where
    here : places_left button p ≡ p - button
    here = above button p more

    by : (b : Bool) → has_player winners p ≡ b → ((next : ℕ) → next < (p + 1) - button → GoesLeft button next (players_from winners (p + 1) n ++ rest)) → GoesLeft button from (players_from winners p (suc n) ++ rest)
    by true is later = rw is (omega (arith, less, here), later (places_left button p) (omega (arith, here, more)))
    by false is later = rw is (later from (omega (arith, less, more)))

left_of : (button winners : ℕ) → button ≤ 10 → GoesLeft button 0 (odd_order button winners)
left_of button winners ten =
    from_left button winners (button + 1) (10 - button) 0 (players_from winners 1 button) (omega arith) (omega (arith, ten)) (omega arith)
    (at_or_below button winners 1 button (10 - button) (omega arith) ten (omega (arith, ten)))

-- by their marks
lower : (mark : ℕ → ℕ) (a b : ℕ) (seats : List ℕ) → a ≤ b → GoesDown mark a seats → GoesDown mark b seats
lower mark a b [] few g = g
lower mark a b (seat ∷ later) few g = (let m = g.0 in omega (arith, m, few), g.1)

with_mark : (mark : ℕ → ℕ) (n most : ℕ) (seats rest : List ℕ) → n ≤ most → GoesDown mark n rest → GoesDown mark most (filter (λ p. mark p == n) seats ++ rest)
with_mark mark n most [] rest few g = lower mark n most rest few g
with_mark mark n most (p ∷ seats) rest few g = by (mark p == n) refl (λ m up. with_mark mark n m seats rest up g)
  where
    by : (b : Bool) → (mark p == n) ≡ b → ((m : ℕ) → n ≤ m → GoesDown mark m (filter (λ q. mark q == n) seats ++ rest)) → GoesDown mark most (filter (λ q. mark q == n) (p ∷ seats) ++ rest)
    by true is later = let same : mark p ≡ n = grind arith in rw is (omega (arith, same, few), later (mark p) (omega (arith, same)))
    by false is later = rw is (later most few)

falls_below : (mark : ℕ → ℕ) (seats : List ℕ) (n most : ℕ) → n ≤ most + 1 → GoesDown mark most (by_marks_below mark seats n)
falls_below mark seats zero most few = tt
falls_below mark seats (suc n) most few = with_mark mark n most seats (by_marks_below mark seats n) (omega (arith, few)) (falls_below mark seats n n (omega arith))

down_by : (mark : ℕ → ℕ) (seats : List ℕ) → GoesDown mark 51 (by_marks mark seats)
unfolding by_marks
down_by mark seats = falls_below mark seats 52 51 (omega arith)

pub odd_units_go_in_order : OddUnitsGoInOrder
unfolding order_of
odd_units_go_in_order side s board winners = record {
  left = λ none ten. rw none (left_of s.button winners ten);
  marks = λ some. rw some (down_by (mark_at side s board) (seats_in winners));
}
