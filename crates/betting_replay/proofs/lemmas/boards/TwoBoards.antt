-- A hand that is run twice has a board, and was at its all-in point; and a second board comes only in one.
use Rattle.std.proofs.Common.{◌≡◌, ℕ, List, [], ◌∷◌, refl, sym, ap, ◌∙◌, Bool, true, false, not, ◌||◌, ◌&&◌, ◌⊎◌, inl, inr}
use Rattle.std.specs.Prelude.{Option, Some, None, is_some, is_none, if◌then◌else◌, nat_le}
use mathlib.Core.Bool.{true≢false}
use Rattle.card_sets.specs.Games.{has_board}
use Rattle.hand_events.specs.declared.events.Header.{Header}
use Rattle.hand_events.specs.declared.events.BoardNumber.{BoardNumber}
use Rattle.hand_events.specs.declared.events.BoardNumber.TheVariants as board
use Rattle.hand_events.specs.declared.events.Event.{Event}
use Rattle.hand_events.specs.declared.events.Event.TheVariants.{Street}
use Rattle.card_sets.specs.declared.streets.Street.{Street as StreetName}
use Rattle.card_sets.specs.declared.streets.Street.TheVariants.{First, Flop, Turn, Fourth, Fifth, Sixth, River, Draw, FirstDraw, SecondDraw, ThirdDraw, ShowDown, Summary}
use Rattle.betting_replay.specs.declared.points.Point.{Point}
use Rattle.betting_replay.specs.Accepted.{IsAccepted}
use Rattle.betting_replay.specs.Accounts.{contenders}
use Rattle.betting_replay.specs.AllIn.{funded_count, is_point, point_on, point_now}
use Rattle.betting_replay.specs.Faults.{may_part, next_first, next_second, next_on, street_early}
use Rattle.betting_replay.specs.Seats.{or_else}
use Rattle.card_sets.specs.Streets.{next_street}
use Rattle.betting_replay.specs.Streets.{same_street, is_first, is_end, begins, begins_on}
use Rattle.betting_replay.specs.Sums.{street, is_last_of, last_begun, opened, twice_from, second_street, marker_board}
use Rattle.betting_replay.specs.TableAfter.{table_of, table_with, point}
use Rattle.betting_replay.specs.Turns.{contender_count, next_to_act}
use Rattle.std.proofs.lemmas.Bool.{and_parts}
use Rattle.betting_replay.proofs.lemmas.steps.PassedTests.{passed}
use Rattle.betting_replay.proofs.lemmas.steps.NextTable.{none_told}
use Rattle.betting_replay.proofs.lemmas.points.PointByMoment.{same_now}
use Rattle.betting_replay.proofs.lemmas.places.DeadCards.{marker_of}

-- a marker of a street that stands is the next on its board
pub stands_on : (g : Header) (players : ℕ) (s : StreetName) (number : BoardNumber) (cards : List ℕ) (h : List Event) → IsAccepted g players (Street s number cards ∷ h) → is_end s ≡ false
    → (same_street s (next_on (table_of g players h) number) ≡ true) × (nat_le 2 (contender_count (table_of g players h)) ≡ true)
stands_on g players ShowDown number cards h ok plain = cc
stands_on g players Summary number cards h ok plain = cc
stands_on g players First number cards h ok plain = and_parts _ _ (marker_of g players First number cards h ok)
stands_on g players Flop number cards h ok plain = and_parts _ _ (marker_of g players Flop number cards h ok)
stands_on g players Turn number cards h ok plain = and_parts _ _ (marker_of g players Turn number cards h ok)
stands_on g players Fourth number cards h ok plain = and_parts _ _ (marker_of g players Fourth number cards h ok)
stands_on g players Fifth number cards h ok plain = and_parts _ _ (marker_of g players Fifth number cards h ok)
stands_on g players Sixth number cards h ok plain = and_parts _ _ (marker_of g players Sixth number cards h ok)
stands_on g players River number cards h ok plain = and_parts _ _ (marker_of g players River number cards h ok)
stands_on g players Draw number cards h ok plain = and_parts _ _ (marker_of g players Draw number cards h ok)
stands_on g players FirstDraw number cards h ok plain = and_parts _ _ (marker_of g players FirstDraw number cards h ok)
stands_on g players SecondDraw number cards h ok plain = and_parts _ _ (marker_of g players SecondDraw number cards h ok)
stands_on g players ThirdDraw number cards h ok plain = and_parts _ _ (marker_of g players ThirdDraw number cards h ok)

-- no street is the next where there is none
pub never_none : (s : StreetName) → same_street s None ≡ true → ⊥
never_none s is = true≢false (sym is)

-- in the second board's first marker, and after it, the hand is run twice
pub second_needs : (o : Option StreetName) (m : BoardNumber) (last : Bool) (next : Option StreetName) (s : StreetName) → same_street s (next_second o m last next) ≡ true → is_some o ≡ true
second_needs None m last next s stands = absurd (never_none s stands)
second_needs (Some from) m last next s stands = refl

some_or : (a b : Option StreetName) → is_some a ≡ true → is_some (or_else a b) ≡ true
some_or None b some = absurd (true≢false (sym some))
some_or (Some s) b some = refl

either_some : (a b : Option StreetName) → is_some (or_else a b) ≡ true → (is_some a ≡ true) ⊎ (is_some b ≡ true)
either_some None b some = inr some
either_some (Some s) b some = inl refl

second_now : (g : Header) (players : ℕ) (e : Event) (h : List Event) → IsAccepted g players (e ∷ h) → is_some (begins_on board.Second e) ≡ true → is_some (twice_from h) ≡ true
second_now g players (Street s board.Second cards) h ok some = by (is_end s) refl some
  where
    by : (b : Bool) → is_end s ≡ b → is_some (if not b then Some s else None) ≡ true → is_some (twice_from h) ≡ true
    by true over some = absurd (true≢false (sym some))
    by false over some = second_needs (twice_from h) (marker_board h) (is_last_of g.game (street g h)) (next_street g.game (street g h)) s (stands_on g players s board.Second cards h ok over).0
second_now g players (Street s board.Only cards) h ok some = absurd (true≢false (sym some))
second_now g players (Street s board.First cards) h ok some = absurd (true≢false (sym some))
second_now g players _ h ok some = absurd (true≢false (sym some))

pub second_runs : (g : Header) (players : ℕ) (h : List Event) → IsAccepted g players h → is_some (second_street h) ≡ true → is_some (twice_from h) ≡ true
second_runs g players [] ok some = cc
second_runs g players (e ∷ h) ok some = elim (either_some (begins_on board.Second e) (second_street h) some) [
  | inl now ↦ some_or (twice_from h) (begins_on board.First e) (second_now g players e h ok now)
  | inr before ↦ some_or (twice_from h) (begins_on board.First e) (second_runs g players h ok.2 before)
]

-- only a hand with a board is run twice
may_have : (b : Bool) (o : Option StreetName) (m : BoardNumber) (next : Option StreetName) (s : StreetName) → same_street s (next_first b o m next) ≡ true → (b ≡ true) ⊎ (is_some o ≡ true)
may_have true o m next s stands = inl refl
may_have false None m next s stands = absurd (never_none s stands)
may_have false (Some from) m next s stands = inr refl

part_board : (g : Header) (players : ℕ) (h : List Event) → may_part (table_of g players h) ≡ true → has_board g.game ≡ true
unfolding may_part
part_board g players h may = (and_parts _ _ (and_parts _ _ may).0).0

first_board : (g : Header) (players : ℕ) (e : Event) (h : List Event) → IsAccepted g players (e ∷ h) → is_some (begins_on board.First e) ≡ true → (is_some (twice_from h) ≡ true → has_board g.game ≡ true) → has_board g.game ≡ true
first_board g players (Street s board.First cards) h ok some before = by (is_end s) refl some
  where
    by : (b : Bool) → is_end s ≡ b → is_some (if not b then Some s else None) ≡ true → has_board g.game ≡ true
    by true over some = absurd (true≢false (sym some))
    by false over some = elim (may_have (may_part (table_of g players h)) (twice_from h) (marker_board h) (next_street g.game (street g h)) s (stands_on g players s board.First cards h ok over).0) [
      | inl may ↦ part_board g players h may
      | inr twice ↦ before twice
    ]
first_board g players (Street s board.Only cards) h ok some before = absurd (true≢false (sym some))
first_board g players (Street s board.Second cards) h ok some before = absurd (true≢false (sym some))
first_board g players _ h ok some before = absurd (true≢false (sym some))

pub twice_board : (g : Header) (players : ℕ) (h : List Event) → IsAccepted g players h → is_some (twice_from h) ≡ true → has_board g.game ≡ true
twice_board g players [] ok some = cc
twice_board g players (e ∷ h) ok some = elim (either_some (twice_from h) (begins_on board.First e) some) [
  | inl before ↦ twice_board g players h ok.2 before
  | inr now ↦ first_board g players e h ok now (λ before. twice_board g players h ok.2 before)
]

-- where the first street has begun the hand is on a street
pub opened_some : (g : Header) (h : List Event) → opened g h ≡ true → is_some (street g h) ≡ true
opened_some g [] is = cc
opened_some g (e ∷ h) is = by (begins g.game (street g h) e) is (opened_some g h)
  where
    by : (o : Option StreetName) → (is_first o || opened g h) ≡ true → (opened g h ≡ true → is_some (street g h) ≡ true) → is_some (or_else o (street g h)) ≡ true
    by None is before = before is
    by (Some s) is before = refl

-- where the hand may be run twice from here on the moment is an all-in point
some_point : (o : Option StreetName) (seats : ℕ) → is_some o ≡ true → is_some (point_on o seats) ≡ true
some_point None seats some = absurd (true≢false (sym some))
some_point (Some s) seats some = refl

parted : (g : Header) (players : ℕ) (h : List Event) → may_part (table_of g players h) ≡ true → (opened g h ≡ true) × (nat_le (funded_count (table_of g players h)) 1 ≡ true)
unfolding may_part
parted g players h may = ((and_parts _ _ (and_parts _ _ may).0).1, (and_parts _ _ may).1)

nobody : (g : Header) (players : ℕ) (s : StreetName) (number : BoardNumber) (cards : List ℕ) (h : List Event) → IsAccepted g players (Street s number cards ∷ h) → next_to_act (table_of g players h) ≡ None
unfolding street_early
nobody g players s number cards h ok = none_told _ _ (passed (table_of g players h) (Street s number cards) ok.1).early

some_either : (a b : Option Point) → is_some b ≡ true → is_some (or_else a b) ≡ true
some_either None b some = some
some_either (Some x) b some = refl

some_first : (a b : Option Point) → is_some a ≡ true → is_some (or_else a b) ≡ true
some_first None b some = absurd (true≢false (sym some))
some_first (Some x) b some = refl

pub point_more : (g : Header) (players : ℕ) (e : Event) (h : List Event) → is_some (point g players h) ≡ true → is_some (point g players (e ∷ h)) ≡ true
unfolding point
point_more g players e h some = some_first (point g players h) (point_now (table_with g players (e ∷ h) None)) some

pub point_kept : (g : Header) (players : ℕ) (e : Event) (h : List Event) → is_some (point g players h) ≡ true → point g players (e ∷ h) ≡ point g players h
unfolding point
point_kept g players e h some = by (point g players h) some
  where
    by : (o : Option Point) → is_some o ≡ true → or_else o (point_now (table_with g players (e ∷ h) None)) ≡ o
    by None some = absurd (true≢false (sym some))
    by (Some x) some = refl

all_hold : (a b c d e : Bool) → a ≡ true → b ≡ true → c ≡ true → d ≡ true → e ≡ false → (a && b && c && d && not e) ≡ true
all_hold a b c d e ha hb hc hd he = rw (ha, hb, hc, hd, he) refl

is_one : (g : Header) (players : ℕ) (s : StreetName) (number : BoardNumber) (cards : List ℕ) (h : List Event) → IsAccepted g players (Street s number cards ∷ h) → is_end s ≡ false → may_part (table_of g players h) ≡ true → last_begun g h ≡ false
    → is_point (table_of g players h) ≡ true
unfolding is_point
is_one g players s number cards h ok plain may last =
    let p = parted g players h may in
    all_hold _ _ _ _ _ p.0 (stands_on g players s number cards h ok plain).1 p.1 (ap is_none (nobody g players s number cards h ok)) last

now_some : (g : Header) (players : ℕ) (s : StreetName) (number : BoardNumber) (cards : List ℕ) (h : List Event) → IsAccepted g players (Street s number cards ∷ h) → is_end s ≡ false → may_part (table_of g players h) ≡ true → last_begun g h ≡ false
    → is_some (point_now (table_of g players h)) ≡ true
unfolding point_now
now_some g players s number cards h ok plain may last =
    ap (λ b. is_some (if b then point_on (street g h) (contenders (table_of g players h)) else None)) (is_one g players s number cards h ok plain may last)
    ∙ some_point (street g h) (contenders (table_of g players h)) (opened_some g h (parted g players h may).0)

pub point_made : (g : Header) (players : ℕ) (s : StreetName) (number : BoardNumber) (cards : List ℕ) (h : List Event) → IsAccepted g players (Street s number cards ∷ h) → is_end s ≡ false → may_part (table_of g players h) ≡ true → last_begun g h ≡ false
    → is_some (point g players h) ≡ true
unfolding point
point_made g players s number cards [] ok plain may last = absurd (true≢false (sym (parted g players [] may).0))
point_made g players s number cards (e ∷ h) ok plain may last =
    let now : is_some (point_now (table_of g players (e ∷ h))) ≡ true = now_some g players s number cards (e ∷ h) ok plain may last in
    some_either (point g players h) (point_now (table_with g players (e ∷ h) None)) (ap is_some (sym (same_now g players (e ∷ h) (point g players (e ∷ h)))) ∙ now)
