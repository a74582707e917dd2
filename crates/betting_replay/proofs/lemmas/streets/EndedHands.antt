-- Where a hand has ended its last street has begun, or fewer than two contenders are left.
use Rattle.std.proofs.Common.{◌≡◌, ℕ, zero, suc, ◌<◌, ◌≤◌, List, [], ◌∷◌, refl, sym, ap, ◌∙◌, Bool, true, false, not, ◌||◌, ◌&&◌, ◌==◌, inl, inr, arith}
use Rattle.std.specs.Prelude.{Option, Some, None, is_some, is_none, if◌then◌else◌, nat_lt, nat_le}
use Rattle.std.proofs.lemmas.Bool.Decides.{nat_tests}
use mathlib.Core.Bool.{true≢false}
use Rattle.card_sets.specs.declared.games.Game.{Game}
use Rattle.hand_events.specs.declared.events.Header.{Header}
use Rattle.hand_events.specs.declared.events.BoardNumber.{BoardNumber}
use Rattle.hand_events.specs.declared.events.BoardNumber.TheVariants as board
use Rattle.hand_events.specs.declared.events.Event.{Event}
use Rattle.hand_events.specs.declared.events.Event.TheVariants.{Street, Discard, Pat}
use Rattle.card_sets.specs.declared.streets.Street.{Street as StreetName}
use Rattle.card_sets.specs.declared.streets.Street.TheVariants.{First, Flop, Turn, Fourth, Fifth, Sixth, River, Draw, FirstDraw, SecondDraw, ThirdDraw, ShowDown, Summary}
use Rattle.betting_replay.specs.declared.points.Point.{Point}
use Rattle.betting_replay.specs.Accepted.{IsAccepted}
use Rattle.betting_replay.specs.CardLaws.{is_end, is_end_of, ends, has_ended}
use Rattle.betting_replay.specs.Events.{seat_of, folds}
use Rattle.card_sets.specs.PlayerSets.{has_player}
use Rattle.betting_replay.specs.Seats.{count_below, or_else}
use Rattle.card_sets.specs.Streets.{next_street}
use Rattle.betting_replay.specs.Streets.{same_street, begun_by_drawing, begins_on, is_number}
use Rattle.betting_replay.specs.Faults.{may_part, next_only, next_first, next_second, next_on, all_begun, may_end}
use Rattle.betting_replay.specs.Sums.{street, is_last_of, last_begun, twice_from, second_street, folded}
use Rattle.betting_replay.specs.TableAfter.{ReplayState, table_with, table_of, point}
use Rattle.betting_replay.specs.Turns.{is_contender, contender_count}
use Rattle.betting_replay.proofs.lemmas.seats.SeatStates.{acts_are}
use Rattle.betting_replay.specs.declared.seats.Acts.{Acts}
use Rattle.card_sets.proofs.CallerLemmas.{or_either}
use Rattle.std.proofs.lemmas.Bool.{and_parts, or_left, or_right}
use Rattle.betting_replay.proofs.lemmas.streets.GameFamilies.{none_after_end, no_last_end}
use Rattle.betting_replay.proofs.lemmas.places.DeadCards.{marker_of}

-- fewer numbers pass a stricter test
fewer_pass : (p q : ℕ → Bool) (n : ℕ) → ((k : ℕ) → k < n → p k ≡ true → q k ≡ true) → count_below p n ≤ count_below q n
fewer_pass p q zero h = omega arith
fewer_pass p q (suc n) h =
    let rest : count_below p n ≤ count_below q n = fewer_pass p q n (λ k l. h k (omega arith)) in
    let here : (if p n then 1 else 0) ≤ (if q n then 1 else 0) = one (p n) (q n) (h n (omega arith)) in
    omega (arith, rest, here)
  where
    one : (a b : Bool) → (a ≡ true → b ≡ true) → (if a then 1 else 0) ≤ (if b then 1 else 0)
    one true true h = omega arith
    one true false h = absurd (true≢false (sym (h refl)))
    one false true h = omega arith
    one false false h = omega arith

-- an event makes nobody a contender
pub contender_is : (g : Header) (players : ℕ) (h : List Event) (x : Option Point) (p : ℕ) → p < 11 → is_contender (table_with g players h x) p ≡ (has_player players p && not (folded h p))
unfolding is_contender
contender_is g players h x p small = ap (λ (a : Acts). has_player players p && not a.folded) (acts_are g players h x p small)

pub still_in : (a b f : Bool) → (a && not (b || f)) ≡ true → (a && not f) ≡ true
still_in true true f h = absurd (true≢false (sym h))
still_in true false f h = h
still_in false b f h = absurd (true≢false (sym h))

pub fewer_left : (g : Header) (players : ℕ) (e : Event) (h : List Event) (x y : Option Point) → contender_count (table_with g players (e ∷ h) x) ≤ contender_count (table_with g players h y)
unfolding contender_count
fewer_left g players e h x y = fewer_pass (is_contender (table_with g players (e ∷ h) x)) (is_contender (table_with g players h y)) 11 (λ p small is.
    contender_is g players h y p small ∙ still_in (has_player players p) ((seat_of e == p) && folds e) (folded h p) (sym (contender_is g players (e ∷ h) x p small) ∙ is))

-- an end stays one
abbrev pub IsPlayed : Header → ℕ → List Event → Option Point → Type 0
IsPlayed g players h x = (last_begun g h || nat_lt (contender_count (table_with g players h x)) 2) ≡ true

few_stay : (g : Header) (players : ℕ) (e : Event) (h : List Event) (x y : Option Point) → nat_lt (contender_count (table_with g players h x)) 2 ≡ true → nat_lt (contender_count (table_with g players (e ∷ h) y)) 2 ≡ true
few_stay g players e h x y few = below (contender_count (table_with g players (e ∷ h) y)) (contender_count (table_with g players h x)) (fewer_left g players e h y x) few
  where
    below : (m n : ℕ) → m ≤ n → nat_lt n 2 ≡ true → nat_lt m 2 ≡ true
    below m n l few = grind (arith, nat_tests)

stays : (g : Header) (players : ℕ) (e : Event) (h : List Event) (x y : Option Point) → IsPlayed g players h x → IsPlayed g players (e ∷ h) y
stays g players e h x y is = elim (or_either (last_begun g h) (nat_lt (contender_count (table_with g players h x)) 2) is) [
  | inl begun ↦ or_left (last_begun g (e ∷ h)) (nat_lt (contender_count (table_with g players (e ∷ h) y)) 2) (or_right _ (last_begun g h) begun)
  | inr few ↦ or_right (last_begun g (e ∷ h)) (nat_lt (contender_count (table_with g players (e ∷ h) y)) 2) (few_stay g players e h x y few)
]

may_be : (g : Header) (players : ℕ) (s : StreetName) (number : BoardNumber) (cards : List ℕ) (h : List Event) → IsAccepted g players (Street s number cards ∷ h) → is_end s ≡ true → may_end (table_of g players h) ≡ true
may_be g players ShowDown number cards h ok is = (and_parts _ _ (marker_of g players ShowDown number cards h ok)).1
may_be g players Summary number cards h ok is = (and_parts _ _ (marker_of g players Summary number cards h ok)).1
may_be g players _ number cards h ok is = cc

end_here : (g : Header) (players : ℕ) (e : Event) (h : List Event) → IsAccepted g players (e ∷ h) → ends e ≡ true → may_end (table_of g players h) ≡ true
end_here g players (Street s number cards) h ok is = may_be g players s number cards h ok is
end_here g players _ h ok is = cc

played_here : (g : Header) (players : ℕ) (h : List Event) → may_end (table_of g players h) ≡ true → IsPlayed g players h (point g players h)
played_here g players h may = elim (or_either (all_begun (table_of g players h)) (nat_lt (contender_count (table_of g players h)) 2) may) [
  | inl begun ↦ or_left (last_begun g h) _ (and_parts _ _ begun).0
  | inr few ↦ or_right (last_begun g h) _ few
]

pub played_at : (g : Header) (players : ℕ) (h : List Event) (y : Option Point) → IsAccepted g players h → has_ended h ≡ true → IsPlayed g players h y
played_at g players [] y ok over = cc
played_at g players (e ∷ h) y ok over = elim (or_either (ends e) (has_ended h) over) [
  | inl here ↦ stays g players e h (point g players h) y (played_here g players h (end_here g players e h ok here))
  | inr before ↦ stays g players e h (point g players h) y (played_at g players h (point g players h) ok.2 before)
]

-- the street of a showdown or of the summary comes with its marker
no_end : (game : Game) (o : Option StreetName) → is_end_of (begun_by_drawing game o) ≡ false
no_end game o = by (same_street Draw (next_street game o))
  where
    by : (b : Bool) → is_end_of (if b then Some Draw else None) ≡ false
    by true = refl
    by false = refl

from_before : (b o : Option StreetName) → is_end_of b ≡ false → is_end_of (or_else b o) ≡ true → is_end_of o ≡ true
from_before None o off is = is
from_before (Some s) o off is = absurd (true≢false (sym is ∙ off))

pub marked_end : (g : Header) (h : List Event) → is_end_of (street g h) ≡ true → has_ended h ≡ true
marked_end g [] is = cc
marked_end g (Street s number cards ∷ h) is = or_left (is_end s) (has_ended h) is
marked_end g (Discard seat count cards ∷ h) is = marked_end g h (from_before (begun_by_drawing g.game (street g h)) (street g h) (no_end g.game (street g h)) is)
marked_end g (Pat seat ∷ h) is = marked_end g h (from_before (begun_by_drawing g.game (street g h)) (street g h) (no_end g.game (street g h)) is)
marked_end g (e ∷ h) is = marked_end g h is

-- after it no street comes on any board
none_on_any : (t : ReplayState) (number : BoardNumber) → next_street t.header.game t.course.street ≡ None → is_last_of t.header.game t.course.street ≡ false → next_on t number ≡ None
none_on_any t board.Only none last = by t.course.split_from
  where
    by : (o : Option StreetName) → next_only o (next_street t.header.game t.course.street) ≡ None
    by None = none
    by (Some from) = refl
none_on_any t board.First none last = by (may_part t) t.course.split_from t.course.marker
  where
    by : (b : Bool) (o : Option StreetName) (n : BoardNumber) → next_first b o n (next_street t.header.game t.course.street) ≡ None
    by true None n = none
    by false None n = refl
    by b (Some from) board.Only = refl
    by b (Some from) board.First = none
    by b (Some from) board.Second = refl
none_on_any t board.Second none last = by t.course.split_from t.course.marker (is_last_of t.header.game t.course.street) last
  where
    by : (o : Option StreetName) (n : BoardNumber) (b : Bool) → b ≡ false → next_second o n b (next_street t.header.game t.course.street) ≡ None
    by None n b off = refl
    by (Some from) board.Only b off = refl
    by (Some from) board.First true off = cc
    by (Some from) board.First false off = refl
    by (Some from) board.Second b off = none

none_stands : (g : Header) (players : ℕ) (s : StreetName) (number : BoardNumber) (h : List Event) → is_end_of (street g h) ≡ true → same_street s None ≡ false
    → (same_street s (next_on (table_of g players h) number) && nat_le 2 (contender_count (table_of g players h))) ≡ true → ⊥
none_stands g players s number h over never stands =
    let none : next_on (table_of g players h) number ≡ None = none_on_any (table_of g players h) number (none_after_end g.game (street g h) over) (no_last_end g.game (street g h) over) in
    true≢false (sym (and_parts _ _ stands).0 ∙ ap (same_street s) none ∙ never)

only_ends : (g : Header) (players : ℕ) (s : StreetName) (number : BoardNumber) (cards : List ℕ) (h : List Event) → IsAccepted g players (Street s number cards ∷ h) → is_end_of (street g h) ≡ true → is_end s ≡ true
only_ends g players ShowDown number cards h ok over = refl
only_ends g players Summary number cards h ok over = refl
only_ends g players First number cards h ok over = absurd (none_stands g players First number h over refl (marker_of g players First number cards h ok))
only_ends g players Flop number cards h ok over = absurd (none_stands g players Flop number h over refl (marker_of g players Flop number cards h ok))
only_ends g players Turn number cards h ok over = absurd (none_stands g players Turn number h over refl (marker_of g players Turn number cards h ok))
only_ends g players Fourth number cards h ok over = absurd (none_stands g players Fourth number h over refl (marker_of g players Fourth number cards h ok))
only_ends g players Fifth number cards h ok over = absurd (none_stands g players Fifth number h over refl (marker_of g players Fifth number cards h ok))
only_ends g players Sixth number cards h ok over = absurd (none_stands g players Sixth number h over refl (marker_of g players Sixth number cards h ok))
only_ends g players River number cards h ok over = absurd (none_stands g players River number h over refl (marker_of g players River number cards h ok))
only_ends g players Draw number cards h ok over = absurd (none_stands g players Draw number h over refl (marker_of g players Draw number cards h ok))
only_ends g players FirstDraw number cards h ok over = absurd (none_stands g players FirstDraw number h over refl (marker_of g players FirstDraw number cards h ok))
only_ends g players SecondDraw number cards h ok over = absurd (none_stands g players SecondDraw number h over refl (marker_of g players SecondDraw number cards h ok))
only_ends g players ThirdDraw number cards h ok over = absurd (none_stands g players ThirdDraw number h over refl (marker_of g players ThirdDraw number cards h ok))

-- a marker of an end begins no street of a board
pub ends_nothing : (n : BoardNumber) (s : StreetName) (number : BoardNumber) (cards : List ℕ) → is_end s ≡ true → begins_on n (Street s number cards) ≡ None
ends_nothing n s number cards over = by (is_number n number) (is_end s) over
  where
    by : (a b : Bool) → b ≡ true → (if a && not b then Some s else None) ≡ None
    by true true is = refl
    by false b is = refl
    by true false is = cc

-- an event that is no marker of a street leaves the boards that there are
pub record SameBoards (e : Event) (h : List Event) : Type 0 where
  pub twice : twice_from (e ∷ h) ≡ twice_from h
  pub second : second_street (e ∷ h) ≡ second_street h

pub or_none : (o : Option StreetName) → or_else o None ≡ o
or_none None = refl
or_none (Some s) = refl

pub no_more_boards : (e : Event) (h : List Event) → begins_on board.First e ≡ None → begins_on board.Second e ≡ None → SameBoards e h
no_more_boards e h first second = record {
  twice = ap (or_else (twice_from h)) first ∙ or_none (twice_from h);
  second = ap (λ o. or_else o (second_street h)) second;
}

pub marker_ends : (s : StreetName) (number : BoardNumber) (cards : List ℕ) (h : List Event) → is_end s ≡ true → SameBoards (Street s number cards) h
marker_ends s number cards h over = no_more_boards (Street s number cards) h (ends_nothing board.First s number cards over) (ends_nothing board.Second s number cards over)

end_marker : (e : Event) (h : List Event) → ends e ≡ true → SameBoards e h
end_marker (Street s number cards) h over = marker_ends s number cards h over
end_marker _ h over = cc

drawn_none : (game : Game) (o : Option StreetName) → is_end_of o ≡ true → begun_by_drawing game o ≡ None
drawn_none game o over = rw (none_after_end game o over) refl

-- after an end the boards stay
boards_stay : (g : Header) (players : ℕ) (e : Event) (h : List Event) → IsAccepted g players (e ∷ h) → is_end_of (street g h) ≡ true → SameBoards e h
boards_stay g players (Street s number cards) h ok over = marker_ends s number cards h (only_ends g players s number cards h ok over)
boards_stay g players _ h ok over = record { twice = or_none (twice_from h); second = refl }

stays_over : (g : Header) (players : ℕ) (e : Event) (h : List Event) → IsAccepted g players (e ∷ h) → is_end_of (street g h) ≡ true → is_end_of (street g (e ∷ h)) ≡ true
stays_over g players (Street s number cards) h ok over = only_ends g players s number cards h ok over
stays_over g players (Discard seat count cards) h ok over = rw (drawn_none g.game (street g h) over) over
stays_over g players (Pat seat) h ok over = rw (drawn_none g.game (street g h) over) over
stays_over g players _ h ok over = over

ends_now : (g : Header) (e : Event) (h : List Event) → ends e ≡ true → is_end_of (street g (e ∷ h)) ≡ true
ends_now g (Street s number cards) h over = over
ends_now g _ h over = cc

over_at : (g : Header) (players : ℕ) (h : List Event) → IsAccepted g players h → has_ended h ≡ true → is_end_of (street g h) ≡ true
over_at g players [] ok over = cc
over_at g players (e ∷ h) ok over = elim (or_either (ends e) (has_ended h) over) [
  | inl here ↦ ends_now g e h here
  | inr before ↦ stays_over g players e h ok (over_at g players h ok.2 before)
]

-- so in a hand that is run twice the second board was played out, or fewer than two contenders were left
abbrev pub IsPlayedTwice : Header → ℕ → List Event → Option Point → Type 0
IsPlayedTwice g players h x = is_some (twice_from h) ≡ true → (is_last_of g.game (second_street h) || nat_lt (contender_count (table_with g players h x)) 2) ≡ true

more_played : (g : Header) (players : ℕ) (e : Event) (h : List Event) (x y : Option Point) → SameBoards e h → IsPlayedTwice g players h x → IsPlayedTwice g players (e ∷ h) y
more_played g players e h x y same before twice = elim (or_either (is_last_of g.game (second_street h)) (nat_lt (contender_count (table_with g players h x)) 2) (before (ap is_some (sym same.twice) ∙ twice))) [
  | inl begun ↦ or_left _ (nat_lt (contender_count (table_with g players (e ∷ h) y)) 2) (ap (is_last_of g.game) same.second ∙ begun)
  | inr few ↦ or_right (is_last_of g.game (second_street (e ∷ h))) _ (few_stay g players e h x y few)
]

twice_here : (g : Header) (players : ℕ) (h : List Event) → may_end (table_of g players h) ≡ true → IsPlayedTwice g players h (point g players h)
twice_here g players h may twice = elim (or_either (all_begun (table_of g players h)) (nat_lt (contender_count (table_of g players h)) 2) may) [
  | inl begun ↦ or_left _ _ (by (twice_from h) twice (and_parts _ _ begun).1)
  | inr few ↦ or_right (is_last_of g.game (second_street h)) _ few
]
  where
    by : (o : Option StreetName) → is_some o ≡ true → (is_none o || is_last_of g.game (second_street h)) ≡ true → is_last_of g.game (second_street h) ≡ true
    by None some is = cc
    by (Some s) some is = is

pub played_twice : (g : Header) (players : ℕ) (h : List Event) (y : Option Point) → IsAccepted g players h → has_ended h ≡ true → IsPlayedTwice g players h y
played_twice g players [] y ok over = cc
played_twice g players (e ∷ h) y ok over = elim (or_either (ends e) (has_ended h) over) [
  | inl here ↦ more_played g players e h (point g players h) y (end_marker e h here) (twice_here g players h (end_here g players e h ok here))
  | inr before ↦ more_played g players e h (point g players h) y (boards_stay g players e h ok (over_at g players h ok.2 before)) (played_twice g players h (point g players h) ok.2 before)
]
