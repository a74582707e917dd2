-- The later streets of accepted events come one after the other.
use Rattle.std.proofs.Common.{◌≡◌, ℕ, List, [], ◌∷◌, ◌++◌, refl, sym, ap, ◌∙◌, subst, Bool, true, false, not, ◌||◌, ◌&&◌, ◌⊎◌, inl, inr}
use Rattle.std.specs.Prelude.{Option, Some, None, is_some, if◌then◌else◌}
use Rattle.std.proofs.lemmas.List.{append-nil}
use mathlib.Core.Bool.{true≢false}
use Rattle.card_sets.specs.Streets.{street_after, streets_by, next_street}
use Rattle.card_sets.specs.Games.{family_of}
use Rattle.card_sets.specs.declared.games.Game.{Game}
use Rattle.card_sets.specs.declared.games.Family.{Family}
use Rattle.card_sets.specs.declared.games.Family.TheVariants as family
use Rattle.card_sets.specs.declared.streets.Street.{Street as StreetName}
use Rattle.card_sets.specs.declared.streets.Street.TheVariants.{First, Flop, Turn, Fourth, Fifth, Sixth, Draw, FirstDraw, SecondDraw, ShowDown, Summary}
use Rattle.hand_events.specs.declared.events.Header.{Header}
use Rattle.hand_events.specs.declared.events.BoardNumber.{BoardNumber}
use Rattle.hand_events.specs.declared.events.BoardNumber.TheVariants as board
use Rattle.hand_events.specs.declared.events.Event.{Event}
use Rattle.hand_events.specs.declared.events.Event.TheVariants.{Street, Discard, Pat}
use Rattle.betting_replay.specs.declared.points.Point.{Point}
use Rattle.betting_replay.specs.Accepted.{IsAccepted}
use Rattle.betting_replay.specs.Accounts.{contenders}
use Rattle.betting_replay.specs.AllIn.{is_point, point_on, point_now, point_street}
use Rattle.betting_replay.specs.Boards.{is_second}
use Rattle.betting_replay.specs.Faults.{may_part, next_only, next_first}
use Rattle.betting_replay.specs.Later.{is_of_second, if_later, later_by, later_begun, listed, later_streets}
use Rattle.betting_replay.specs.Seats.{or_else}
use Rattle.betting_replay.specs.Streets.{same_street, is_later, is_end, begun_by_drawing, begins, begins_on, shows_on}
use Rattle.betting_replay.specs.Sums.{street, is_last_of, twice_from, marker_board, shown_on, showdowns_of}
use Rattle.betting_replay.specs.Table.{ReplayState}
use Rattle.betting_replay.specs.TableAfter.{table_of, table_with, point}
use Rattle.betting_replay.specs.Turns.{any_shown}
use Rattle.betting_replay.proofs.CallerLemmas.{marker_of, street_is, no_draw, none_begun, none_after_end, stands_on, never_none, second_needs, twice_board, point_kept}
use Rattle.std.proofs.lemmas.Bool.{and_parts}
use Rattle.hand_audit.specs.LaterOrder.{ComeInOrder}

-- the last of some streets, or else the one before them
abbrev pub last_in : StreetName → List StreetName → StreetName
last_in before [] = before
last_in before (s ∷ rest) = last_in s rest

last_more : (before : StreetName) (some : List StreetName) (s : StreetName) → last_in before (some ++ s ∷ []) ≡ s
last_more before [] s = refl
last_more before (t ∷ rest) s = last_more t rest s

-- one street more
order_more : (game : Game) (before : StreetName) (some : List StreetName) (s : StreetName) → ComeInOrder game before some → next_street game (Some (last_in before some)) ≡ Some s → ComeInOrder game before (some ++ s ∷ [])
order_more game before [] s order is = (is, tt)
order_more game before (t ∷ rest) s order is = (order.0, order_more game t rest s order.1 is)

same_is : (s : StreetName) (o : Option StreetName) → same_street s o ≡ true → o ≡ Some s
same_is s None is = absurd (never_none s is)
same_is s (Some t) is = ap Some (sym (street_is s t is))

none_some : (s : StreetName) → None ≡ Some s → ⊥
none_some s e = cc

one_street : (s t : StreetName) → Some s ≡ Some t → s ≡ t
one_street s t e = cc

-- kinds of streets
first_left : (s : StreetName) → is_end s ≡ false → is_later s ≡ false → s ≡ First
first_left First plain early = refl
first_left ShowDown plain early = cc
first_left Summary plain early = cc
first_left _ plain early = cc

later_plain : (s : StreetName) → is_later s ≡ true → is_end s ≡ false
later_plain ShowDown later = cc
later_plain Summary later = cc
later_plain _ later = refl

-- the first street of a game comes after no other
not_first : (f : Family) (s : StreetName) → same_street First (street_after s (streets_by f)) ≡ false
not_first family.Board First = refl
not_first family.Board Flop = refl
not_first family.Board Turn = refl
not_first family.Board _ = refl
not_first family.Stud First = refl
not_first family.Stud Fourth = refl
not_first family.Stud Fifth = refl
not_first family.Stud Sixth = refl
not_first family.Stud _ = refl
not_first family.Draw First = refl
not_first family.Draw _ = refl
not_first family.TripleDraw First = refl
not_first family.TripleDraw FirstDraw = refl
not_first family.TripleDraw SecondDraw = refl
not_first family.TripleDraw _ = refl

never_first : (game : Game) (s : StreetName) → next_street game (Some s) ≡ Some First → ⊥
never_first game s is = true≢false (ap (same_street First) (sym is) ∙ not_first (family_of game) s)

-- a marker of a second board stood only where the hand is run twice
some_or : (a b : Option StreetName) → is_some a ≡ true → is_some (or_else a b) ≡ true
some_or None b some = cc
some_or (Some s) b some = refl

ends_second : (g : Header) (players : ℕ) (s : StreetName) (cards : List ℕ) (h : List Event) → IsAccepted g players (Street s board.Second cards ∷ h) → is_end s ≡ true → is_some (twice_from h) ≡ true
ends_second g players ShowDown cards h ok over = (and_parts _ _ (and_parts _ _ (and_parts _ _ (marker_of g players ShowDown board.Second cards h ok)).0).0).0
ends_second g players Summary cards h ok over = absurd (true≢false (sym (marker_of g players Summary board.Second cards h ok)))
ends_second g players _ cards h ok over = cc

second_stands : (g : Header) (players : ℕ) (s : StreetName) (cards : List ℕ) (h : List Event) → IsAccepted g players (Street s board.Second cards ∷ h) → is_some (twice_from h) ≡ true
second_stands g players s cards h ok = by (is_end s) refl
  where
    by : (b : Bool) → is_end s ≡ b → is_some (twice_from h) ≡ true
    by true over = ends_second g players s cards h ok over
    by false plain = second_needs (twice_from h) (marker_board h) (is_last_of g.game (street g h)) (next_street g.game (street g h)) s (stands_on g players s board.Second cards h ok plain).0

marker_twice : (g : Header) (players : ℕ) (h : List Event) → IsAccepted g players h → is_second (marker_board h) ≡ true → is_some (twice_from h) ≡ true
marker_twice g players [] ok second = cc
marker_twice g players (Street s board.Second cards ∷ h) ok second = some_or (twice_from h) (begins_on board.First (Street s board.Second cards)) (second_stands g players s cards h ok)
marker_twice g players (Street s board.Only cards ∷ h) ok second = cc
marker_twice g players (Street s board.First cards ∷ h) ok second = cc
marker_twice g players (e ∷ h) ok second = some_or (twice_from h) (begins_on board.First e) (marker_twice g players h ok.2 second)

not_second : (g : Header) (players : ℕ) (h : List Event) → IsAccepted g players h → (is_some (twice_from h) ≡ true → ⊥) → is_second (marker_board h) ≡ false
not_second g players h ok never = by (is_second (marker_board h)) refl
  where
    by : (b : Bool) → is_second (marker_board h) ≡ b → is_second (marker_board h) ≡ false
    by true second = absurd (never (marker_twice g players h ok second))
    by false first = first

-- a street that begins on the only board or on the first is the one that comes next, and no second board has begun
only_next : (o next : Option StreetName) (s : StreetName) → same_street s (next_only o next) ≡ true → (o ≡ None) × (next ≡ Some s)
only_next None next s is = (refl, same_is s next is)
only_next (Some from) next s is = absurd (never_none s is)

first_next : (may : Bool) (o : Option StreetName) (m : BoardNumber) (next : Option StreetName) (s : StreetName) → same_street s (next_first may o m next) ≡ true → ((o ≡ None) ⊎ (is_second m ≡ false)) × (next ≡ Some s)
first_next true None m next s is = (inl refl, same_is s next is)
first_next false None m next s is = absurd (never_none s is)
first_next may (Some from) board.Only next s is = absurd (never_none s is)
first_next may (Some from) board.First next s is = (inr refl, same_is s next is)
first_next may (Some from) board.Second next s is = absurd (never_none s is)

not_twice : (o : Option StreetName) → o ≡ None → is_some o ≡ true → ⊥
not_twice None is some = true≢false (sym some)
not_twice (Some s) is some = cc

record IsNext (g : Header) (h : List Event) (s : StreetName) : Type 0 where
  comes : next_street g.game (street g h) ≡ Some s
  on_first : is_second (marker_board h) ≡ false

marker_next : (g : Header) (players : ℕ) (s : StreetName) (number : BoardNumber) (cards : List ℕ) (h : List Event) → IsAccepted g players (Street s number cards ∷ h) → is_end s ≡ false → is_second number ≡ false → IsNext g h s
marker_next g players s board.Only cards h ok plain first =
    let is = only_next (twice_from h) (next_street g.game (street g h)) s (stands_on g players s board.Only cards h ok plain).0 in
    record { comes = is.1; on_first = not_second g players h ok.2 (not_twice (twice_from h) is.0) }
marker_next g players s board.First cards h ok plain first =
    let is = first_next (may_part (table_of g players h)) (twice_from h) (marker_board h) (next_street g.game (street g h)) s (stands_on g players s board.First cards h ok plain).0 in
    record { comes = is.1; on_first = no_second is.0 }
  where
    no_second : ((twice_from h ≡ None) ⊎ (is_second (marker_board h) ≡ false)) → is_second (marker_board h) ≡ false
    no_second (inl none) = not_second g players h ok.2 (not_twice (twice_from h) none)
    no_second (inr first_board) = first_board
marker_next g players s board.Second cards h ok plain first = cc

-- so is the draw that a discard or a stand-pat begins
drawn : (game : Game) (o : Option StreetName) (s : StreetName) → begun_by_drawing game o ≡ Some s → next_street game o ≡ Some s
drawn game o s is = by (same_street Draw (next_street game o)) refl is
  where
    by : (b : Bool) → same_street Draw (next_street game o) ≡ b → (if b then Some Draw else None) ≡ Some s → next_street game o ≡ Some s
    by true next begun = same_is Draw (next_street game o) next ∙ begun
    by false next begun = absurd (none_some s begun)

draw_next : (g : Header) (players : ℕ) (h : List Event) (s : StreetName) → IsAccepted g players h → begun_by_drawing g.game (street g h) ≡ Some s → IsNext g h s
draw_next g players h s ok is = record {
  comes = drawn g.game (street g h) s is;
  on_first = not_second g players h ok (λ twice. none_some s (sym (none_begun g.game (street g h) (no_draw g.game (twice_board g players h ok twice))) ∙ is));
}

begun_next : (g : Header) (players : ℕ) (e : Event) (h : List Event) (s : StreetName) → IsAccepted g players (e ∷ h) → is_of_second e ≡ false → begins g.game (street g h) e ≡ Some s → is_later s ≡ true → IsNext g h s
begun_next g players (Street m number cards) h s ok first begun later =
    let same : m ≡ s = one_street m s begun in
    subst (IsNext g h) same (marker_next g players m number cards h ok (later_plain m (ap is_later same ∙ later)) first)
begun_next g players (Discard seat count cards) h s ok first begun later = draw_next g players h s ok.2 begun
begun_next g players (Pat seat) h s ok first begun later = draw_next g players h s ok.2 begun
begun_next g players _ h s ok first begun later = absurd (none_some s begun)

-- what it says that a later street begins
record HasBegun (t : ReplayState) (e : Event) (s : StreetName) : Type 0 where
  quiet : any_shown t.course.showdowns ≡ false
  first : is_of_second e ≡ false
  begun : begins t.header.game t.course.street e ≡ Some s
  later : is_later s ≡ true

if_later_is : (o : Option StreetName) (s : StreetName) → if_later o ≡ Some s → (o ≡ Some s) × (is_later s ≡ true)
if_later_is None s is = absurd (none_some s is)
if_later_is (Some m) s is = by (is_later m) refl is
  where
    by : (b : Bool) → is_later m ≡ b → (if b then Some m else None) ≡ Some s → (Some m ≡ Some s) × (is_later s ≡ true)
    by true later same = (same, ap is_later (sym (one_street m s same)) ∙ later)
    by false early same = absurd (none_some s same)

has_begun : (t : ReplayState) (e : Event) (s : StreetName) → later_begun t e ≡ Some s → HasBegun t e s
has_begun t e s is = by (is_some t.point) (any_shown t.course.showdowns) refl (is_of_second e) refl is
  where
    by : (a b : Bool) → any_shown t.course.showdowns ≡ b → (c : Bool) → is_of_second e ≡ c → (if a && not b then (if c then None else if_later (begins t.header.game t.course.street e)) else None) ≡ Some s → HasBegun t e s
    by true false quiet false first h = (let l = if_later_is (begins t.header.game t.course.street e) s h in record { quiet = quiet; first = first; begun = l.0; later = l.1 })
    by true false quiet true second h = absurd (none_some s h)
    by true true shown c first h = absurd (none_some s h)
    by false b shown c first h = absurd (none_some s h)

-- and that none does, where one might
later_is : (t : ReplayState) (e : Event) → is_some t.point ≡ true → any_shown t.course.showdowns ≡ false → later_begun t e ≡ later_by t.header.game t.course.street e
later_is t e some quiet =
    ap (λ a. if a && not (any_shown t.course.showdowns) then later_by t.header.game t.course.street e else None) some
    ∙ ap (λ b. if true && not b then later_by t.header.game t.course.street e else None) quiet

none_later : (o : Option StreetName) (s : StreetName) → o ≡ Some s → if_later o ≡ None → is_later s ≡ false
none_later o s is none = by (is_later s) refl (ap if_later (sym is) ∙ none)
  where
    by : (b : Bool) → is_later s ≡ b → (if b then Some s else None) ≡ None → is_later s ≡ false
    by true later same = absurd (none_some s (sym same))
    by false early same = early

-- before the point there are no later streets
or_none : (o p : Option Point) → or_else o p ≡ None → o ≡ None
or_none None p is = refl
or_none (Some x) p is = cc

point_none : (g : Header) (players : ℕ) (e : Event) (h : List Event) → point g players (e ∷ h) ≡ None → point g players h ≡ None
unfolding point
point_none g players e h none = or_none (point g players h) (point_now (table_with g players (e ∷ h) None)) none

none_before : (t : ReplayState) (e : Event) → t.point ≡ None → later_begun t e ≡ None
none_before t e none = ap (λ (o : Option Point). if is_some o && not (any_shown t.course.showdowns) then later_by t.header.game t.course.street e else None) none

no_streets : (g : Header) (players : ℕ) (h : List Event) → point g players h ≡ None → later_streets g players h ≡ []
no_streets g players [] none = refl
no_streets g players (e ∷ h) none =
    let before : point g players h ≡ None = point_none g players e h none in
    ap (λ (l : List StreetName). l ++ listed (later_begun (table_of g players h) e)) (no_streets g players h before) ∙ ap listed (none_before (table_of g players h) e before)

-- the point lies on the street that the hand is on
street_on : (o : Option StreetName) (seats : ℕ) → point_street (point_on o seats) ≡ o
street_on None seats = refl
street_on (Some s) seats = refl

point_at : (t : ReplayState) (found : Point) → point_now t ≡ Some found → t.course.street ≡ Some found.street
unfolding point_now
point_at t found is = by (is_point t) is
  where
    by : (b : Bool) → (if b then point_on t.course.street (contenders t) else None) ≡ Some found → t.course.street ≡ Some found.street
    by true h = sym (street_on t.course.street (contenders t)) ∙ ap point_street h
    by false h = cc

point_begins : (g : Header) (players : ℕ) (e : Event) (h : List Event) (found : Point) → point g players h ≡ None → point g players (e ∷ h) ≡ Some found → street g (e ∷ h) ≡ Some found.street
unfolding point
point_begins g players e h found none is =
    point_at (table_with g players (e ∷ h) None) found (ap (λ (o : Option Point). or_else o (point_now (table_with g players (e ∷ h) None))) (sym none) ∙ is)

-- while no showdown's marker and no second board's stood, the street that comes next is the one after this
abbrev pub IsBehind : Header → List Event → StreetName → Type 0
IsBehind g h last = any_shown (showdowns_of h) ≡ false → is_second (marker_board h) ≡ false → (s : StreetName) → next_street g.game (street g h) ≡ Some s → next_street g.game (Some last) ≡ Some s

on_it : (g : Header) (h : List Event) (last : StreetName) → street g h ≡ Some last → IsBehind g h last
on_it g h last at shown second s next = ap (next_street g.game) (sym at) ∙ next

less_shown : (a x b y c z : Bool) → ((a || x) || (b || y) || (c || z)) ≡ false → (x || y || z) ≡ false
less_shown true x b y c z is = cc
less_shown false true b y c z is = cc
less_shown false false true y c z is = cc
less_shown false false false true c z is = cc
less_shown false false false false true z is = cc
less_shown false false false false false z is = is

-- an event that begins no later street keeps it so
marker_keeps : (g : Header) (players : ℕ) (m : StreetName) (number : BoardNumber) (cards : List ℕ) (h : List Event) (last : StreetName) → IsAccepted g players (Street m number cards ∷ h) → is_some (point g players h) ≡ true
    → later_begun (table_of g players h) (Street m number cards) ≡ None → IsBehind g h last → IsBehind g (Street m number cards ∷ h) last
marker_keeps g players m number cards h last ok some none before shown first s next = by (is_end m) refl
  where
    quiet : any_shown (showdowns_of h) ≡ false
    quiet = less_shown (shows_on board.Only (Street m number cards)) (shown_on board.Only h) (shows_on board.First (Street m number cards)) (shown_on board.First h) (shows_on board.Second (Street m number cards)) (shown_on board.Second h) shown

    early : is_later m ≡ false
    early = none_later (Some m) m refl (ap (λ b. if b then None else if_later (Some m)) (sym first) ∙ sym (later_is (table_of g players h) (Street m number cards) some quiet) ∙ none)

    by : (b : Bool) → is_end m ≡ b → next_street g.game (Some last) ≡ Some s
    by true over = absurd (none_some s (sym (none_after_end g.game (Some m) over) ∙ next))
    by false plain =
        let is = marker_next g players m number cards h ok plain first in
        absurd (never_first g.game last (before quiet is.on_first First (is.comes ∙ ap Some (first_left m plain early))))

drawing_keeps : (g : Header) (players : ℕ) (e : Event) (h : List Event) (last : StreetName) → is_some (point g players h) ≡ true → begins g.game (street g h) e ≡ begun_by_drawing g.game (street g h) → is_of_second e ≡ false
    → later_begun (table_of g players h) e ≡ None → any_shown (showdowns_of h) ≡ false → street g (e ∷ h) ≡ street g h
drawing_keeps g players e h last some draws first none quiet = by (begun_by_drawing g.game (street g h)) refl
  where
    same : later_by g.game (street g h) e ≡ None
    same = sym (later_is (table_of g players h) e some quiet) ∙ none

    never : if_later (begins g.game (street g h) e) ≡ None
    never = ap (λ b. if b then None else if_later (begins g.game (street g h) e)) (sym first) ∙ same

    is_draw : (o : Option StreetName) (b : Bool) → (if b then Some Draw else None) ≡ o → if_later o ≡ None → o ≡ None
    is_draw o true is h = absurd (none_some Draw (sym (ap if_later is ∙ h)))
    is_draw o false is h = sym is

    by : (o : Option StreetName) → begun_by_drawing g.game (street g h) ≡ o → street g (e ∷ h) ≡ street g h
    by o is = ap (λ (x : Option StreetName). or_else x (street g h)) (draws ∙ is ∙ is_draw o (same_street Draw (next_street g.game (street g h))) is (ap if_later (sym (draws ∙ is)) ∙ never))

keeps : (g : Header) (players : ℕ) (e : Event) (h : List Event) (last : StreetName) → IsAccepted g players (e ∷ h) → is_some (point g players h) ≡ true → later_begun (table_of g players h) e ≡ None → IsBehind g h last → IsBehind g (e ∷ h) last
keeps g players (Street m number cards) h last ok some none before = marker_keeps g players m number cards h last ok some none before
keeps g players (Discard seat count cards) h last ok some none before =
    λ shown second s next. before shown second s (ap (next_street g.game) (sym (drawing_keeps g players (Discard seat count cards) h last some refl refl none shown)) ∙ next)
keeps g players (Pat seat) h last ok some none before =
    λ shown second s next. before shown second s (ap (next_street g.game) (sym (drawing_keeps g players (Pat seat) h last some refl refl none shown)) ∙ next)
keeps g players _ h last ok some none before = before

-- the later streets so far come in order, and the next is the one after the last of them
pub record InOrder (g : Header) (players : ℕ) (h : List Event) (found : Point) : Type 0 where
  pub order : ComeInOrder g.game found.street (later_streets g players h)
  pub behind : IsBehind g h (last_in found.street (later_streets g players h))

at_point : (g : Header) (players : ℕ) (e : Event) (h : List Event) (found : Point) → point g players h ≡ None → point g players (e ∷ h) ≡ Some found → InOrder g players (e ∷ h) found
at_point g players e h found none is =
    let empty : later_streets g players (e ∷ h) ≡ [] = ap (λ (l : List StreetName). l ++ listed (later_begun (table_of g players h) e)) (no_streets g players h none) ∙ ap listed (none_before (table_of g players h) e none) in
    record {
      order = subst (ComeInOrder g.game found.street) (sym empty) tt;
      behind = subst (λ (l : List StreetName). IsBehind g (e ∷ h) (last_in found.street l)) (sym empty) (on_it g (e ∷ h) found.street (point_begins g players e h found none is));
    }

one_more : (g : Header) (players : ℕ) (e : Event) (h : List Event) (found : Point) → IsAccepted g players (e ∷ h) → is_some (point g players h) ≡ true → InOrder g players h found → InOrder g players (e ∷ h) found
one_more g players e h found ok some before = by (later_begun (table_of g players h) e) refl
  where
    by : (o : Option StreetName) → later_begun (table_of g players h) e ≡ o → InOrder g players (e ∷ h) found
    by None is =
        let same : later_streets g players (e ∷ h) ≡ later_streets g players h = ap (λ o. later_streets g players h ++ listed o) is ∙ append-nil (later_streets g players h) in
        record {
          order = subst (ComeInOrder g.game found.street) (sym same) before.order;
          behind = subst (λ (l : List StreetName). IsBehind g (e ∷ h) (last_in found.street l)) (sym same) (keeps g players e h (last_in found.street (later_streets g players h)) ok some is before.behind);
        }
    by (Some s) is =
        let b = has_begun (table_of g players h) e s is in
        let next = begun_next g players e h s ok b.first b.begun b.later in
        let more : later_streets g players (e ∷ h) ≡ later_streets g players h ++ s ∷ [] = ap (λ o. later_streets g players h ++ listed o) is in
        let last : last_in found.street (later_streets g players (e ∷ h)) ≡ s = ap (last_in found.street) more ∙ last_more found.street (later_streets g players h) s in
        let at : street g (e ∷ h) ≡ Some s = ap (λ (o : Option StreetName). or_else o (street g h)) b.begun in
        record {
          order = subst (ComeInOrder g.game found.street) (sym more) (order_more g.game found.street (later_streets g players h) s before.order (before.behind b.quiet next.on_first s next.comes));
          behind = subst (IsBehind g (e ∷ h)) (sym last) (on_it g (e ∷ h) s at);
        }

no_point : (g : Header) (players : ℕ) (found : Point) → point g players [] ≡ Some found → ⊥
unfolding point
no_point g players found is = cc

pub in_order : (g : Header) (players : ℕ) (h : List Event) → IsAccepted g players h → (found : Point) → point g players h ≡ Some found → InOrder g players h found
in_order g players [] ok found is = absurd (no_point g players found is)
in_order g players (e ∷ h) ok found is = by (point g players h) refl (λ before. in_order g players h ok.2 found before)
  where
    by : (o : Option Point) → point g players h ≡ o → (point g players h ≡ Some found → InOrder g players h found) → InOrder g players (e ∷ h) found
    by None none before = at_point g players e h found none is
    by (Some x) some before =
        let known : is_some (point g players h) ≡ true = ap is_some some in
        one_more g players e h found ok known (before (sym (point_kept g players e h known) ∙ is))
