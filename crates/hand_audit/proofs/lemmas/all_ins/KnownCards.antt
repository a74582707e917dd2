-- What a known all-in has is known there.
use Rattle.std.proofs.Common.{◌≡◌, ℕ, zero, suc, ◌<◌, ◌≤◌, List, [], ◌∷◌, refl, sym, ap, ◌∙◌, subst, Bool, true, false, ◌==◌, ◌&&◌, length, map, arith}
use Rattle.std.specs.Prelude.{Option, Some, None, is_some, unwrap_or, slice_index_or, if◌then◌else◌}
use Rattle.std.specs.List.{list_all}
use Rattle.std.proofs.lemmas.List.{length-map}
use Rattle.card_sets.specs.PlayerSets.{seats_in}
use Rattle.card_sets.specs.Cards.{has_card}
use Rattle.card_sets.specs.declared.games.Game.{Game}
use Rattle.card_sets.specs.declared.streets.Street.{Street}
use Rattle.hand_events.specs.declared.events.Header.{Header}
use Rattle.hand_events.specs.declared.events.Event.{Event}
use Rattle.pot_layers.specs.Split.{InRange}
use Rattle.pot_layers.specs.Pots.{pots}
use Rattle.betting_replay.specs.Accepted.{IsAccepted, ShowsSeats, ShowsDead}
use Rattle.betting_replay.specs.AllIn.{point_contenders}
use Rattle.betting_replay.specs.Boards.{board_up_to, second_board}
use Rattle.betting_replay.specs.CardLaws.{PlacesAreApart, CardsBelongAfter}
use Rattle.betting_replay.specs.Known.{cards_at}
use Rattle.betting_replay.specs.Places.{owned}
use Rattle.betting_replay.specs.Seats.{by_seat}
use Rattle.betting_replay.specs.Table.{ReplayState, known_at}
use Rattle.betting_replay.specs.TableAfter.{table_of, dead_cards}
use Rattle.betting_replay.proofs.CallerLemmas.{at_by_seat}
use Rattle.card_sets.proofs.CallerLemmas.{from_apart}
use Rattle.showdown_tally.specs.declared.table.Table.{Table}
use Rattle.hand_audit.specs.AllIns.{cards_or_none, bare_of, all_in_at, known_with, known_there, eligible_in, all_in_on}
use Rattle.hand_audit.specs.CardsKnown.{IsHandOf, IsStillHidden, KnowsCards}
use Rattle.hand_audit.specs.KnownTables.{Bare, ten, holds, with_facts, table_if, table_from, all_hold}
use Rattle.hand_audit.specs.Showings.{paid_in}
use Rattle.hand_audit.specs.Streets.{table_in}
use Rattle.hand_audit.specs.declared.at_point.AtPoint.{AtPoint}
use Rattle.hand_verdict.specs.declared.verdicts.AllIn.TheVariants.{Unknown, Known}
use Rattle.hand_audit.proofs.lemmas.seats.SeatLists.{range_from}
use Rattle.hand_audit.proofs.lemmas.tables.TableFacts.{bare}
use Rattle.hand_audit.proofs.lemmas.seats.TenPlaces.{in_ten, in_map}

-- what a known all-in is made of
pub record IsMade (point : AtPoint) (all : List ℕ) (street : Street) (seats : List ℕ) (table : Table) : Type 0 where
  pub known : list_all (λ p. is_some (slice_index_or point.cards p None)) (seats_in point.contenders) ≡ true
  pub street_is : point.street ≡ street
  pub seats_are : seats ≡ ten 0 (seats_in point.contenders)
  pub bare_is : bare table ≡ bare_of point all

known_parts : (a b : Street) (x y : List ℕ) (t u : Table) → Known a x t ≡ Known b y u → (a ≡ b) × (x ≡ y) × (t ≡ u)
known_parts a b x y t u e = (cc, cc, cc)

one_table : (t u : Table) → Some t ≡ Some u → t ≡ u
one_table t u e = cc

table_bare : (b : Bare) (table : Table) → table_from b ≡ Some table → bare table ≡ b
unfolding table_from with_facts
table_bare b table is = by (holds b) refl is
  where
    by : (known : Bool) (e : holds b ≡ known) → table_if b known e ≡ Some table → bare table ≡ b
    by true e h = let same : with_facts b (all_hold b e) ≡ table = one_table _ _ h in sym (ap bare same)
    by false e h = cc

pub made_of : (point : AtPoint) (all : List ℕ) (street : Street) (seats : List ℕ) (table : Table) → all_in_at point all ≡ Known street seats table → IsMade point all street seats table
unfolding all_in_at
made_of point all street seats table is = by (list_all (λ p. is_some (slice_index_or point.cards p None)) (seats_in point.contenders)) refl is
  where
    from : (o : Option Table) → table_from (bare_of point all) ≡ o → list_all (λ p. is_some (slice_index_or point.cards p None)) (seats_in point.contenders) ≡ true → known_with point.street (seats_in point.contenders) o ≡ Known street seats table → IsMade point all street seats table
    from None e k h = cc
    from (Some t) e k h =
        let parts = known_parts point.street street (ten 0 (seats_in point.contenders)) seats t table h in
        record { known = k; street_is = parts.0; seats_are = sym parts.1; bare_is = table_bare (bare_of point all) table (e ∙ ap (λ (x : Table). Some x) parts.2) }

    by : (b : Bool) → list_all (λ p. is_some (slice_index_or point.cards p None)) (seats_in point.contenders) ≡ b
        → (if b then known_with point.street (seats_in point.contenders) (table_from (bare_of point all)) else Unknown) ≡ Known street seats table → IsMade point all street seats table
    by true k h = from (table_from (bare_of point all)) refl k h
    by false k h = cc

-- where there is a table at a point the all-in there is known
pub known_is : (p : AtPoint) (all : List ℕ) (table : Table) → table_in (all_in_at p all) ≡ Some table → all_in_at p all ≡ Known p.street (ten 0 (seats_in p.contenders)) table
unfolding all_in_at
known_is p all table is = by (list_all (λ q. is_some (slice_index_or p.cards q None)) (seats_in p.contenders)) is
  where
    from : (o : Option Table) → table_in (known_with p.street (seats_in p.contenders) o) ≡ Some table → known_with p.street (seats_in p.contenders) o ≡ Known p.street (ten 0 (seats_in p.contenders)) table
    from None h = cc
    from (Some t) h = ap (λ x. Known p.street (ten 0 (seats_in p.contenders)) x) (one_table t table h)

    by : (b : Bool) → table_in (if b then known_with p.street (seats_in p.contenders) (table_from (bare_of p all)) else Unknown) ≡ Some table
        → (if b then known_with p.street (seats_in p.contenders) (table_from (bare_of p all)) else Unknown) ≡ Known p.street (ten 0 (seats_in p.contenders)) table
    by true h = from (table_from (bare_of p all)) h
    by false h = cc

street_there : (game : Game) (t : ReplayState) (found street : Street) → (known_there game t found).street ≡ street → found ≡ street
unfolding known_there
street_there game t found street is = is

pub made_at : (game : Game) (t : ReplayState) (o : Option Street) (street : Street) (seats : List ℕ) (table : Table) → all_in_on game t o ≡ Known street seats table → IsMade (known_there game t street) (eligible_in (pots (paid_in t))) street seats table
made_at game t None street seats table is = cc
made_at game t (Some found) street seats table is =
    let m = made_of (known_there game t found) (eligible_in (pots (paid_in t))) street seats table is in
    subst (λ (st : Street). IsMade (known_there game t st) (eligible_in (pots (paid_in t))) street seats table) (street_there game t found street m.street_is) m

all_index : (f : ℕ → Bool) (xs : List ℕ) (i : ℕ) → list_all f xs ≡ true → i < length xs → f (slice_index_or xs i 0) ≡ true
all_index f [] i all l = absurd (omega arith)
all_index f (x ∷ xs) i all l = by i l (f x) refl all (λ k m rest. all_index f xs k rest m)
  where
    by : (k : ℕ) → k < length (x ∷ xs) → (b : Bool) → f x ≡ b → (b && list_all f xs) ≡ true → ((j : ℕ) → j < length xs → list_all f xs ≡ true → f (slice_index_or xs j 0) ≡ true) → f (slice_index_or (x ∷ xs) k 0) ≡ true
    by zero m true e rest later = e
    by (suc k) m true e rest later = later k (omega (arith, m)) rest
    by k m false e rest later = cc

range_index : (xs : List ℕ) (i : ℕ) → InRange xs → i < length xs → (1 ≤ slice_index_or xs i 0) × (slice_index_or xs i 0 ≤ 10)
range_index [] i r l = absurd (omega arith)
range_index (x ∷ xs) zero r l = (r.0, r.1)
range_index (x ∷ xs) (suc i) r l = range_index xs i r.2 (omega (arith, l))

pub some_is : (o : Option (List ℕ)) → is_some o ≡ true → o ≡ Some (unwrap_or o [])
some_is None e = cc
some_is (Some cards) e = refl

some_seat : (p : ℕ) → 1 ≤ p → (p == 0) ≡ false
some_seat p l = grind arith

hidden : (b : Bool) (own : List ℕ) (card : ℕ) → has_card own card ≡ b → (has_card own card ≡ true → ⊥) → b ≡ false
hidden true own card e no_card = absurd (no_card e)
hidden false own card e no_card = refl

pub known_made : PlacesAreApart → CardsBelongAfter → ShowsSeats → ShowsDead → (g : Header) (players : ℕ) (h : List Event) (street : Street) (seats : List ℕ) (table : Table) → IsAccepted g players h
    → IsMade (known_there g.game (table_of g players h) street) (eligible_in (pots (paid_in (table_of g players h)))) street seats table → KnowsCards g players h street seats table
unfolding known_there bare_of
known_made apart belong shows shows_dead g players h street seats table ok made =
    record { hands = hands; board = board; dead = dead_is; later = later; second = other }
  where
    t : ReplayState
    t = table_of g players h

    xs : List ℕ
    xs = seats_in (point_contenders t.point)

    board : table.known.board ≡ board_up_to h street
    board = ap (λ (b : Bare). b.board) made.bare_is

    dead_is : table.known.dead ≡ dead_cards g players h
    dead_is = ap (λ (b : Bare). b.dead) made.bare_is ∙ shows_dead g players h

    cards : List (Option (List ℕ))
    cards = by_seat (λ p. known_at t p street)

    hand_at : (i : ℕ) → i < length xs → (p : ℕ) → slice_index_or xs i 0 ≡ p → p < 11 → IsHandOf g h street p (cards_or_none cards p)
    hand_at i l p at few =
        let there : slice_index_or cards p None ≡ cards_at g h p street = at_by_seat (λ q. known_at t q street) p None few ∙ (shows g players h p few).known street in
        let known : is_some (slice_index_or cards p None) ≡ true = ap (λ q. is_some (slice_index_or cards q None)) (sym at) ∙ all_index (λ q. is_some (slice_index_or cards q None)) xs i made.known l in
        let is_hand : cards_at g h p street ≡ Some (cards_or_none cards p) = sym there ∙ some_is (slice_index_or cards p None) known in
        record { cards = is_hand; own = (belong g players h ok).known p street (cards_or_none cards p) is_hand }

    hands : (i : ℕ) → i < table.known.count → IsHandOf g h street (slice_index_or seats i 0) (slice_index_or table.known.hands i [])
    hands i l =
        let count : table.known.count ≡ length xs = ap (λ (b : Bare). b.count) made.bare_is in
        let inside : i < length xs = omega (arith, l, count) in
        let mapped : length (map (cards_or_none cards) xs) ≡ length xs = length-map xs (cards_or_none cards) in
        let p = slice_index_or xs i 0 in
        let range = range_index xs i (range_from (point_contenders t.point) 1 10 (omega arith) (omega arith)) inside in
        let seat : slice_index_or seats i 0 ≡ p = ap (λ s. slice_index_or s i 0) made.seats_are ∙ in_ten 0 xs i 0 inside in
        let hand : slice_index_or table.known.hands i [] ≡ cards_or_none cards p
        = ap (λ (b : Bare). slice_index_or b.hands i []) made.bare_is ∙ in_ten [] (map (cards_or_none cards) xs) i [] (omega (arith, inside, mapped)) ∙ in_map (cards_or_none cards) xs i [] inside in
        subst (λ (q : ℕ). IsHandOf g h street q (slice_index_or table.known.hands i [])) (sym seat)
        (subst (λ (own : List ℕ). IsHandOf g h street p own) (sym hand) (hand_at i inside p refl (omega (arith, range.1))))

    seat_some : (i : ℕ) → i < table.known.count → (slice_index_or seats i 0 == 0) ≡ false
    seat_some i l =
        let count : table.known.count ≡ length xs = ap (λ (b : Bare). b.count) made.bare_is in
        let inside : i < length xs = omega (arith, l, count) in
        let range = range_index xs i (range_from (point_contenders t.point) 1 10 (omega arith) (omega arith)) inside in
        let seat : slice_index_or seats i 0 ≡ slice_index_or xs i 0 = ap (λ s. slice_index_or s i 0) made.seats_are ∙ in_ten 0 xs i 0 inside in
        some_seat (slice_index_or seats i 0) (omega (arith, seat, range.0))

    later : (card : ℕ) → has_card (owned g.game h 0) card ≡ true → has_card (board_up_to h street) card ≡ false → IsStillHidden table card
    later card here after = record {
      hands = λ i l. hidden (has_card (slice_index_or table.known.hands i []) card) (slice_index_or table.known.hands i []) card refl
          (λ has. from_apart (owned g.game h (slice_index_or seats i 0)) (owned g.game h 0) card (apart g.game h (slice_index_or seats i 0) 0 (seat_some i l)) ((hands i l).own.each card has) here);
      dead = hidden (has_card table.known.dead card) table.known.dead card refl
          (λ has. from_apart (dead_cards g players h) (owned g.game h 0) card (belong g players h ok).dead_and_board (subst (λ (cards : List ℕ). has_card cards card ≡ true) dead_is has) here);
    }

    seat_few : (i : ℕ) → i < table.known.count → slice_index_or seats i 0 < 11
    seat_few i l =
        let count : table.known.count ≡ length xs = ap (λ (b : Bare). b.count) made.bare_is in
        let inside : i < length xs = omega (arith, l, count) in
        let range = range_index xs i (range_from (point_contenders t.point) 1 10 (omega arith) (omega arith)) inside in
        let seat : slice_index_or seats i 0 ≡ slice_index_or xs i 0 = ap (λ s. slice_index_or s i 0) made.seats_are ∙ in_ten 0 xs i 0 inside in
        omega (arith, seat, range.1)

    other : (second : List ℕ) → second_board h ≡ Some second → (card : ℕ) → has_card second card ≡ true → IsStillHidden table card
    other second come card here = record {
      hands = λ i l. hidden (has_card (slice_index_or table.known.hands i []) card) (slice_index_or table.known.hands i []) card refl
          (λ has. from_apart (slice_index_or table.known.hands i []) second card
          ((belong g players h ok).seat_and_second (slice_index_or seats i 0) (seat_some i l) (seat_few i l) street (slice_index_or table.known.hands i []) second (hands i l).cards come) has here);
      dead = hidden (has_card table.known.dead card) table.known.dead card refl
          (λ has. from_apart (dead_cards g players h) second card ((belong g players h ok).dead_and_second second come) (subst (λ (cards : List ℕ). has_card cards card ≡ true) dead_is has) here);
    }
