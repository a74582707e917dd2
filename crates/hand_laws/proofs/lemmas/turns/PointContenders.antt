-- Whoever is in the hand was in it at the all-in point.
use Rattle.std.proofs.Common.{◌≡◌, ℕ, ◌<◌, ◌≤◌, ◌^◌, List, [], ◌∷◌, refl, sym, ap, ◌∙◌, Bool, true, false, not, ◌&&◌, ◌==◌, inl, inr, arith, zero, suc}
use Rattle.std.specs.Prelude.{Option, Some, None, if◌then◌else◌, nat_le}
use Rattle.std.proofs.lemmas.Bool.{cases_lt, and_parts}
use Rattle.std.proofs.lemmas.Bool.Decides.{nat_tests}
use mathlib.Core.Bool.{true≢false}
use Rattle.hand_events.specs.declared.events.Header.{Header}
use Rattle.hand_events.specs.declared.events.Event.{Event}
use Rattle.card_sets.specs.declared.streets.Street.{Street as StreetName}
use Rattle.betting_replay.specs.declared.points.Point.{Point}
use Rattle.betting_replay.specs.Accounts.{contenders}
use Rattle.betting_replay.specs.AllIn.{is_point, point_on, point_now}
use Rattle.betting_replay.specs.Events.{seat_of, folds}
use Rattle.hand_laws.specs.PointLaws.{HasContenders}
use Rattle.card_sets.specs.PlayerSets.{has_player}
use Rattle.card_sets.specs.PlayerSetLaws.{players_where-small, has_player-where, has_player-above}
use Rattle.betting_replay.specs.Seats.{count_seats, or_else, count_below}
use Rattle.betting_replay.specs.Sums.{street, folded}
use Rattle.betting_replay.specs.TableAfter.{ReplayState, table_with, point}
use Rattle.betting_replay.specs.Turns.{is_contender, contender_count}
use Rattle.betting_replay.proofs.CallerLemmas.{contender_is, still_in}

-- as many pass where two tests agree
same_count : (f g : ℕ → Bool) (n : ℕ) → ((p : ℕ) → p < n → f p ≡ g p) → count_below f n ≡ count_below g n
same_count f g zero h = refl
same_count f g (suc n) h =
    let rest : count_below f n ≡ count_below g n = same_count f g n (λ p l. h p (omega arith)) in
    let here : f n ≡ g n = h n (omega arith) in
    rw (rest, here) refl

-- the set of the contenders at a table
contender_bit : (t : ReplayState) (p : ℕ) → p < 11 → has_player (contenders t) p ≡ is_contender t p
unfolding contenders
contender_bit t p small = has_player-where (is_contender t) 11 p small

contenders_small : (t : ReplayState) → contenders t < 2 ^ 11
unfolding contenders
contenders_small t = players_where-small (is_contender t) 11

only_small : (t : ReplayState) (p : ℕ) → has_player (contenders t) p ≡ true → p < 11
only_small t p has = elim (cases_lt p 11) [
  | inl l ↦ l
  | inr ge ↦ absurd (true≢false (sym has ∙ has_player-above (contenders t) 11 p (contenders_small t) ge))
]

count_is : (t : ReplayState) → count_seats (has_player (contenders t)) ≡ contender_count t
unfolding contender_count
count_is t = same_count (has_player (contenders t)) (is_contender t) 11 (λ p l. contender_bit t p l)

is_player : (g : Header) (players : ℕ) (h : List Event) (x : Option Point) (p : ℕ) → p < 11 → is_contender (table_with g players h x) p ≡ true → has_player players p ≡ true
is_player g players h x p small is = (and_parts (has_player players p) (not (folded h p)) (sym (contender_is g players h x p small) ∙ is)).0

-- a moment that is a point
from_street : (o : Option StreetName) (seats : ℕ) (found : Point) → point_on o seats ≡ Some found → found.contenders ≡ seats
from_street None seats found is = cc
from_street (Some s) seats found is = (let e : record { street = s; contenders = seats } ≡ found = cc in ap (λ (x : Point). x.contenders) (sym e))

at_now : (g : Header) (players : ℕ) (h : List Event) (x : Option Point) (found : Point) → point_now (table_with g players h x) ≡ Some found → (is_point (table_with g players h x) ≡ true) × (found.contenders ≡ contenders (table_with g players h x))
unfolding point_now
at_now g players h x found is = one (is_point (table_with g players h x)) refl is
  where
    one : (b : Bool) → is_point (table_with g players h x) ≡ b → (if b then point_on (street g h) (contenders (table_with g players h x)) else None) ≡ Some found → (is_point (table_with g players h x) ≡ true) × (found.contenders ≡ contenders (table_with g players h x))
    one true p is = (p, from_street (street g h) (contenders (table_with g players h x)) found is)
    one false p is = cc

at_least : (n : ℕ) → nat_le 2 n ≡ true → 2 ≤ n
at_least n h = grind (arith, nat_tests)

two_of : (t : ReplayState) → is_point t ≡ true → nat_le 2 (contender_count t) ≡ true
unfolding is_point
two_of t p = (and_parts _ _ (and_parts _ _ (and_parts _ _ (and_parts _ _ p).0).0).0).1

two_there : (t : ReplayState) → is_point t ≡ true → 2 ≤ contender_count t
two_there t p = at_least (contender_count t) (two_of t p)

-- who is one now was one a moment before
was_one : (g : Header) (players : ℕ) (e : Event) (h : List Event) (x y : Option Point) (p : ℕ) → p < 11 → is_contender (table_with g players (e ∷ h) x) p ≡ true → is_contender (table_with g players h y) p ≡ true
was_one g players e h x y p small is = contender_is g players h y p small ∙ still_in (has_player players p) ((seat_of e == p) && folds e) (folded h p) (sym (contender_is g players (e ∷ h) x p small) ∙ is)

same_one : (g : Header) (players : ℕ) (h : List Event) (x y : Option Point) (p : ℕ) → p < 11 → is_contender (table_with g players h x) p ≡ true → is_contender (table_with g players h y) p ≡ true
same_one g players h x y p small is = contender_is g players h y p small ∙ sym (contender_is g players h x p small) ∙ is

found_now : (g : Header) (players : ℕ) (h : List Event) (found : Point) → point_now (table_with g players h None) ≡ Some found → HasContenders g players h found
found_now g players h found is =
    let w = at_now g players h None found is in
    let t : ReplayState = table_with g players h None in
    let bits : (p : ℕ) → has_player found.contenders p ≡ has_player (contenders t) p = (λ p. ap (λ n. has_player n p) w.1) in
    record {
      two = (let many : count_seats (has_player found.contenders) ≡ contender_count t = ap (λ n. count_seats (has_player n)) w.1 ∙ count_is t in let two : 2 ≤ contender_count t = two_there t w.0 in omega (arith, many, two));
      small = (let low : contenders t < 2 ^ 11 = contenders_small t in omega (arith, w.1, low));
      seated = λ p has. (let there : has_player (contenders t) p ≡ true = sym (bits p) ∙ has in let l : p < 11 = only_small t p there in is_player g players h None p l (sym (contender_bit t p l) ∙ there));
      later = λ p small now. bits p ∙ contender_bit t p small ∙ same_one g players h (point g players h) None p small now;
    }

pub points : (g : Header) (players : ℕ) (h : List Event) (found : Point) → point g players h ≡ Some found → HasContenders g players h found
unfolding point
points g players [] found is = cc
points g players (e ∷ h) found is = one (point g players h) refl (point_now (table_with g players (e ∷ h) None)) is (λ before. points g players h found before) (λ now. found_now g players (e ∷ h) found now)
  where
    one : (o : Option Point) → point g players h ≡ o → (now : Option Point) → or_else o now ≡ Some found → (point g players h ≡ Some found → HasContenders g players h found) → (now ≡ Some found → HasContenders g players (e ∷ h) found) → HasContenders g players (e ∷ h) found
    one None was now is before here = here is
    one (Some x) was now is before here = (let b : HasContenders g players h found = before (was ∙ is) in record {
      two = b.two;
      small = b.small;
      seated = b.seated;
      later = λ p small now. b.later p small (was_one g players e h (point g players (e ∷ h)) (point g players h) p small now);
    })
