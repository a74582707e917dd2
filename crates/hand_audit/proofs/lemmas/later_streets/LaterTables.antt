-- What is known on the later streets of an accepted hand is no less than at its all-in: `law_later_streets_know_no_less`.
use Rattle.std.proofs.Common.{◌≡◌, ℕ, zero, suc, ◌-◌, ◌<◌, ◌≤◌, List, [], ◌∷◌, refl, sym, ap, ◌∙◌, subst, inl, inr, ◌⊎◌, ◌||◌, length, length-append, map, take, arith}
use Rattle.std.specs.Prelude.{Option, Some, None, All, slice_index_or, replicate, Result, Ok, Err}
use Rattle.std.proofs.lemmas.Bool.{cases_lt, or_left}
use Rattle.std.proofs.lemmas.List.{get_or-take, length-map, length-take-le}
use Rattle.card_sets.specs.Cards.{has_card, union, IsCardSet}
use Rattle.card_sets.specs.Games.{family_of, own_size}
use Rattle.card_sets.specs.PlayerSets.{seats_in}
use Rattle.card_sets.specs.State.{state_of}
use Rattle.card_sets.specs.Streets.{next_street, street_after, streets_by}
use Rattle.card_sets.specs.declared.games.Game.{Game}
use Rattle.card_sets.specs.declared.games.Family.{Family}
use Rattle.card_sets.specs.declared.games.Family.TheVariants as family
use Rattle.card_sets.specs.declared.streets.Street.{Street}
use Rattle.card_sets.specs.declared.streets.Street.TheVariants.{First, Flop, Turn, Fourth, Fifth, Sixth, River, FirstDraw, SecondDraw}
use Rattle.card_sets.proofs.CallerLemmas.{fewer_where}
use Rattle.hand_events.specs.declared.events.Header.{Header}
use Rattle.hand_events.specs.declared.events.Event.{Event}
use Rattle.hand_events.specs.declared.events.TextFault.{TextFault}
use Rattle.history_text.specs.Headers.{header_of}
use Rattle.pot_layers.specs.Pots.{pots}
use Rattle.betting_replay.specs.declared.points.Point.{Point}
use Rattle.betting_replay.specs.Accepted.{IsAccepted, ShowsSeats, ShowsDead}
use Rattle.betting_replay.specs.AllIn.{point_street, point_contenders}
use Rattle.betting_replay.specs.Boards.{board_on, board_up_to, up_to}
use Rattle.betting_replay.specs.CardLaws.{CardsBelong, CardsBelongAfter, PlacesAreApart}
use Rattle.betting_replay.specs.Known.{Holding, cards_at, final_in, holding_of, known_in}
use Rattle.betting_replay.specs.KnownLaws.{KnowsAllDealt, dealt_by_street}
use Rattle.betting_replay.specs.Later.{later_streets}
use Rattle.betting_replay.specs.Table.{ReplayState}
use Rattle.betting_replay.specs.TableAfter.{table_of}
use Rattle.runout_ranges.specs.MoreKnown.{KnowsNoLess}
use Rattle.showdown_tally.specs.declared.table.Table.{Table}
use Rattle.hand_audit.specs.AllIns.{all_in_by, all_in_on, bare_of, cards_or_none, eligible_in, known_there}
use Rattle.hand_audit.specs.CardsKnown.{KnowsCards}
use Rattle.hand_audit.specs.KnownTables.{Bare, ten}
use Rattle.hand_audit.specs.LaterCards.{KnowsNoLessThan}
use Rattle.hand_audit.specs.LaterOrder.{ComeInOrder}
use Rattle.hand_audit.specs.Lines.{nothing}
use Rattle.hand_audit.specs.Showings.{paid_in}
use Rattle.hand_audit.specs.Streets.{state_on, states_behind, states_in, states_of}
use Rattle.hand_audit.specs.Verdict.{audit_of, events_of}
use Rattle.hand_verdict.specs.declared.settlement.Settlement.{Settlement}
use Rattle.hand_verdict.specs.declared.verdicts.AllIn.TheVariants.{Known}
use Rattle.hand_verdict.specs.declared.verdicts.HandAudit.TheVariants.{Accepted}
use Rattle.hand_audit.proofs.lemmas.all_ins.KnownCards.{IsMade, known_is, known_made, made_at, made_of}
use Rattle.hand_audit.proofs.lemmas.later_streets.LaterOrder.{in_order}
use Rattle.hand_audit.proofs.lemmas.lines.AcceptedHand.{accepted_is}
use Rattle.hand_audit.proofs.lemmas.lines.AcceptedLines.{sound_all, start}

-- how many cards a player is known to have on a street at the least and at the most, where they are known
abbrev least_cards : Family → ℕ → Street → ℕ
least_cards family.Board size street = size
least_cards family.Stud size street = dealt_by_street street
least_cards family.Draw size First = 0
least_cards family.Draw size street = size
least_cards family.TripleDraw size First = 0
least_cards family.TripleDraw size FirstDraw = 0
least_cards family.TripleDraw size SecondDraw = 0
least_cards family.TripleDraw size street = size

abbrev most_cards : Family → ℕ → Street → ℕ
most_cards family.Board size street = size
most_cards family.Stud size street = dealt_by_street street
most_cards family.Draw size street = size
most_cards family.TripleDraw size First = 0
most_cards family.TripleDraw size FirstDraw = 0
most_cards family.TripleDraw size street = size

least_most : (f : Family) (size : ℕ) (s : Street) → least_cards f size s ≤ most_cards f size s
least_most family.Board size s = omega arith
least_most family.Stud size s = omega arith
least_most family.Draw size First = omega arith
least_most family.Draw size _ = omega arith
least_most family.TripleDraw size First = omega arith
least_most family.TripleDraw size FirstDraw = omega arith
least_most family.TripleDraw size SecondDraw = omega arith
least_most family.TripleDraw size _ = omega arith

-- on the street that comes next he has no fewer
abbrev IsNoFewer : Family → ℕ → Street → Option Street → Type 0
IsNoFewer f size s None = Unit {0}
IsNoFewer f size s (Some t) = most_cards f size s ≤ least_cards f size t

no_fewer : (f : Family) (size : ℕ) (s : Street) → IsNoFewer f size s (street_after s (streets_by f))
no_fewer family.Board size First = omega arith
no_fewer family.Board size Flop = omega arith
no_fewer family.Board size Turn = omega arith
no_fewer family.Board size _ = tt
no_fewer family.Stud size First = omega arith
no_fewer family.Stud size Fourth = omega arith
no_fewer family.Stud size Fifth = omega arith
no_fewer family.Stud size Sixth = omega arith
no_fewer family.Stud size _ = tt
no_fewer family.Draw size First = omega arith
no_fewer family.Draw size _ = tt
no_fewer family.TripleDraw size First = omega arith
no_fewer family.TripleDraw size FirstDraw = omega arith
no_fewer family.TripleDraw size SecondDraw = omega arith
no_fewer family.TripleDraw size _ = tt

-- and the board has no fewer there
more_cards : (a b : List ℕ) → IsCardSet a → length a ≤ length (union a b)
more_cards a b set = omega (arith, ap length set, fewer_where (has_card a) (λ k. has_card a k || has_card b k) (λ k h. or_left (has_card a k) (has_card b k) h))

abbrev BoardNoSmaller : List ℕ → List ℕ → List ℕ → Street → Option Street → Type 0
BoardNoSmaller flop turn river s None = Unit {0}
BoardNoSmaller flop turn river s (Some t) = length (up_to s flop turn river) ≤ length (up_to t flop turn river)

board_no_smaller : (f : Family) (flop turn river : List ℕ) → IsCardSet flop → IsCardSet (union flop turn) → (s : Street) → BoardNoSmaller flop turn river s (street_after s (streets_by f))
board_no_smaller family.Board flop turn river x y First = omega arith
board_no_smaller family.Board flop turn river x y Flop = more_cards flop turn x
board_no_smaller family.Board flop turn river x y Turn = more_cards (union flop turn) river y
board_no_smaller family.Board flop turn river x y _ = tt
board_no_smaller family.Stud flop turn river x y First = omega arith
board_no_smaller family.Stud flop turn river x y Fourth = omega arith
board_no_smaller family.Stud flop turn river x y Fifth = omega arith
board_no_smaller family.Stud flop turn river x y Sixth = omega arith
board_no_smaller family.Stud flop turn river x y _ = tt
board_no_smaller family.Draw flop turn river x y First = omega arith
board_no_smaller family.Draw flop turn river x y _ = tt
board_no_smaller family.TripleDraw flop turn river x y First = omega arith
board_no_smaller family.TripleDraw flop turn river x y FirstDraw = omega arith
board_no_smaller family.TripleDraw flop turn river x y SecondDraw = omega arith
board_no_smaller family.TripleDraw flop turn river x y _ = tt

-- a street on which nobody has fewer cards than on another, and the board has no fewer
record IsNoLess (g : Header) (h : List Event) (s t : Street) : Type 0 where
  cards : most_cards (family_of g.game) (own_size g.game) s ≤ least_cards (family_of g.game) (own_size g.game) t
  board : length (board_up_to h s) ≤ length (board_up_to h t)

next_no_less : (g : Header) (players : ℕ) (h : List Event) → CardsBelong g players h → (s t : Street) → next_street g.game (Some s) ≡ Some t → IsNoLess g h s t
next_no_less g players h belong s t next = record {
  cards = subst (IsNoFewer (family_of g.game) (own_size g.game) s) next (no_fewer (family_of g.game) (own_size g.game) s);
  board = subst (BoardNoSmaller (board_on Flop h) (board_on Turn h) (board_on River h) s) next
      (board_no_smaller (family_of g.game) (board_on Flop h) (board_on Turn h) (board_on River h) (belong.board Flop).set (belong.board Turn).set s);
}

both_no_less : (g : Header) (h : List Event) (s t u : Street) → IsNoLess g h s t → IsNoLess g h t u → IsNoLess g h s u
both_no_less g h s t u a b = record {
  cards = omega (arith, a.cards, b.cards, least_most (family_of g.game) (own_size g.game) t);
  board = omega (arith, a.board, b.board);
}

-- how many cards are known on a street, where they are
record AreAsMany (f : Family) (size : ℕ) (s : Street) (cards : List ℕ) : Type 0 where
  least : least_cards f size s ≤ length cards
  most : length cards ≤ most_cards f size s

none_known : (cards : List ℕ) → None ≡ Some cards → ⊥
none_known cards e = cc

as_many : (g : Header) (players : ℕ) (h : List Event) → CardsBelong g players h → KnowsAllDealt → (p : ℕ) (s : Street) (cards : List ℕ) → cards_at g h p s ≡ Some cards → AreAsMany (family_of g.game) (own_size g.game) s cards
as_many g players h belong dealt p s cards is = by (family_of g.game) refl s refl
  where
    x : Holding
    x = holding_of g h p

    few : length cards ≤ own_size g.game
    few = belong.few p s cards is

    known : (f : Family) → family_of g.game ≡ f → (t : Street) → s ≡ t → known_in f (own_size g.game) x t ≡ Some cards
    known f e t at = sym (ap (λ k. known_in k (own_size g.game) x s) e ∙ ap (known_in f (own_size g.game) x) at) ∙ is

    whole : (f : Family) → family_of g.game ≡ f → (t : Street) → s ≡ t → known_in f (own_size g.game) x t ≡ final_in f (own_size g.game) x → length cards ≡ own_size g.game
    whole f e t at same = belong.whole p cards (ap (λ k. final_in k (own_size g.game) x) e ∙ sym same ∙ known f e t at)

    all : (f : Family) (t : Street) → least_cards f (own_size g.game) t ≡ own_size g.game → most_cards f (own_size g.game) t ≡ own_size g.game → length cards ≡ own_size g.game → AreAsMany f (own_size g.game) t cards
    all f t a b c = record { least = omega (arith, a, c); most = omega (arith, b, c) }

    some : (f : Family) (t : Street) → least_cards f (own_size g.game) t ≡ 0 → most_cards f (own_size g.game) t ≡ own_size g.game → AreAsMany f (own_size g.game) t cards
    some f t a b = record { least = omega (arith, a); most = omega (arith, b, few) }

    by : (f : Family) → family_of g.game ≡ f → (t : Street) → s ≡ t → AreAsMany f (own_size g.game) t cards
    by family.Board e t at = all family.Board t refl refl (whole family.Board e t at refl)
    by family.Stud e t at =
        let d : length cards ≡ dealt_by_street t = dealt g h p s cards e is ∙ ap dealt_by_street at in
        record { least = omega (arith, d); most = omega (arith, d) }
    by family.Draw e First at = some family.Draw First refl refl
    by family.Draw e t at = all family.Draw t refl refl (whole family.Draw e t at refl)
    by family.TripleDraw e First at = absurd (none_known cards (known family.TripleDraw e First at))
    by family.TripleDraw e FirstDraw at = absurd (none_known cards (known family.TripleDraw e FirstDraw at))
    by family.TripleDraw e SecondDraw at = some family.TripleDraw SecondDraw refl refl
    by family.TripleDraw e t at = all family.TripleDraw t refl refl (whole family.TripleDraw e t at refl)

-- a hand that isn't there has no card
no_hand : (n i : ℕ) (xs : List (List ℕ)) → n ≤ i → length (slice_index_or (take n xs) i []) ≡ 0
no_hand zero zero xs l = refl
no_hand zero (suc i) xs l = refl
no_hand (suc n) zero xs l = absurd (omega (arith, l))
no_hand (suc n) (suc i) [] l = refl
no_hand (suc n) (suc i) (x ∷ xs) l = no_hand n i xs (omega (arith, l))

-- the hands of a table are as many as its seats
ten_length : (xs : List (List ℕ)) → length xs ≤ length (ten [] xs)
unfolding ten
ten_length xs = omega (arith, length-append xs (replicate (10 - length xs) []))

record HasHands (table : Table) (seats : List ℕ) : Type 0 where
  count : table.known.count ≡ length seats
  enough : length seats ≤ length table.known.hands

has_hands : (game : Game) (t : ReplayState) (s : Street) (all seats : List ℕ) (table : Table) → IsMade (known_there game t s) all s seats table → HasHands table (seats_in (point_contenders t.point))
unfolding known_there bare_of
has_hands game t s all seats table made =
    let xs = seats_in (point_contenders t.point) in
    let hands = map (cards_or_none (known_there game t s).cards) xs in
    record {
      count = ap (λ (b : Bare). b.count) made.bare_is;
      enough = omega (arith, ap (λ (b : Bare). length b.hands) made.bare_is, ten_length hands, length-map xs (cards_or_none (known_there game t s).cards));
    }

same_game : (game : Game) (t : ReplayState) (s : Street) (all seats : List ℕ) (table : Table) → IsMade (known_there game t s) all s seats table → table.known.game ≡ game
unfolding known_there bare_of
same_game game t s all seats table made = ap (λ (b : Bare). b.game) made.bare_is

seats_at : (game : Game) (t : ReplayState) (s : Street) (all seats : List ℕ) (table : Table) → IsMade (known_there game t s) all s seats table → seats ≡ ten 0 (seats_in (point_contenders t.point))
unfolding known_there
seats_at game t s all seats table made = made.seats_are

-- two tables of a hand, the second on a street on which nothing is less
two_tables : KnowsAllDealt → (g : Header) (players : ℕ) (h : List Event) → CardsBelong g players h → (all : List ℕ) (s t : Street) (seats others : List ℕ) (table later : Table) → IsNoLess g h s t
    → IsMade (known_there g.game (table_of g players h) s) all s seats table → KnowsCards g players h s seats table
    → IsMade (known_there g.game (table_of g players h) t) all t others later → KnowsCards g players h t others later
    → KnowsNoLess (state_of table.known) (state_of later.known)
two_tables dealt g players h belong all s t seats others table later less made knows made' knows' = record {
  game = same_game g.game r t all others later made' ∙ sym (same_game g.game r s all seats table made);
  hands = omega (arith, length-take-le later.known.count later.known.hands (omega (arith, b.count, b.enough)), length-take-le table.known.count table.known.hands (omega (arith, a.count, a.enough)), same_count);
  cards = λ i. hand i (cases_lt i table.known.count);
  board = omega (arith, ap length knows.board, ap length knows'.board, less.board);
  dead = ap length (knows'.dead ∙ sym knows.dead);
}
  where
    r : ReplayState
    r = table_of g players h

    a : HasHands table (seats_in (point_contenders r.point))
    a = has_hands g.game r s all seats table made

    b : HasHands later (seats_in (point_contenders r.point))
    b = has_hands g.game r t all others later made'

    same_count : later.known.count ≡ table.known.count
    same_count = b.count ∙ sym a.count

    same_seats : others ≡ seats
    same_seats = seats_at g.game r t all others later made' ∙ sym (seats_at g.game r s all seats table made)

    two : (i : ℕ) → i < table.known.count → length (slice_index_or table.known.hands i []) ≤ length (slice_index_or later.known.hands i [])
    two i l =
        let p = slice_index_or seats i 0 in
        let inside : i < later.known.count = omega (arith, l, same_count) in
        let at : cards_at g h (slice_index_or others i 0) t ≡ Some (slice_index_or later.known.hands i []) = (knows'.hands i inside).cards in
        let before = as_many g players h belong dealt p s (slice_index_or table.known.hands i []) (knows.hands i l).cards in
        let after = as_many g players h belong dealt p t (slice_index_or later.known.hands i []) (ap (λ (q : List ℕ). cards_at g h (slice_index_or q i 0) t) (sym same_seats) ∙ at) in
        omega (arith, before.most, after.least, less.cards)

    hand : (i : ℕ) → (i < table.known.count) ⊎ (table.known.count ≤ i) → length (slice_index_or (take table.known.count table.known.hands) i []) ≤ length (slice_index_or (take later.known.count later.known.hands) i [])
    hand i (inl l) =
        let first : slice_index_or (take table.known.count table.known.hands) i [] ≡ slice_index_or table.known.hands i [] = get_or-take table.known.count table.known.hands i [] l in
        let second : slice_index_or (take later.known.count later.known.hands) i [] ≡ slice_index_or later.known.hands i [] = get_or-take later.known.count later.known.hands i [] (omega (arith, l, same_count)) in
        omega (arith, ap length first, ap length second, two i l)
    hand i (inr past) = omega (arith, no_hand table.known.count i table.known.hands past)

-- so are all later ones
more_on : PlacesAreApart → CardsBelongAfter → ShowsSeats → ShowsDead → KnowsAllDealt → (g : Header) (players : ℕ) (h : List Event) → IsAccepted g players h → (all : List ℕ) → all ≡ eligible_in (pots (paid_in (table_of g players h)))
    → (s t : Street) (seats : List ℕ) (table : Table) → IsNoLess g h s t → IsMade (known_there g.game (table_of g players h) s) all s seats table → KnowsNoLessThan table (state_on g.game (table_of g players h) all t)
unfolding known_there
more_on apart belong shows shows_dead dealt g players h ok all is s t seats table less made later at =
    let r = table_of g players h in
    let made' = made_of (known_there g.game r t) all t (ten 0 (seats_in (known_there g.game r t).contenders)) later (known_is (known_there g.game r t) all later at) in
    let knows = known_made apart belong shows shows_dead g players h s seats table ok (subst (λ (e : List ℕ). IsMade (known_there g.game r s) e s seats table) is made) in
    let knows' = known_made apart belong shows shows_dead g players h t (ten 0 (seats_in (known_there g.game r t).contenders)) later ok
    (subst (λ (e : List ℕ). IsMade (known_there g.game r t) e t (ten 0 (seats_in (known_there g.game r t).contenders)) later) is made') in
    two_tables dealt g players h (belong g players h ok) all s t seats (ten 0 (seats_in (known_there g.game r t).contenders)) table later less made knows made' knows'

all_more : PlacesAreApart → CardsBelongAfter → ShowsSeats → ShowsDead → KnowsAllDealt → (g : Header) (players : ℕ) (h : List Event) → IsAccepted g players h → (all : List ℕ) → all ≡ eligible_in (pots (paid_in (table_of g players h)))
    → (s : Street) (seats : List ℕ) (table : Table) → IsMade (known_there g.game (table_of g players h) s) all s seats table
    → (before : Street) (streets : List Street) → ((t : Street) → next_street g.game (Some before) ≡ Some t → IsNoLess g h s t) → ComeInOrder g.game before streets
    → All (KnowsNoLessThan table) (map (state_on g.game (table_of g players h) all) streets)
all_more apart belong shows shows_dead dealt g players h ok all is s seats table made before [] next order k d l = absurd (omega (arith, l))
all_more apart belong shows shows_dead dealt g players h ok all is s seats table made before (t ∷ rest) next order zero d l =
    more_on apart belong shows shows_dead dealt g players h ok all is s t seats table (next t order.0) made
all_more apart belong shows shows_dead dealt g players h ok all is s seats table made before (t ∷ rest) next order (suc k) d l =
    all_more apart belong shows shows_dead dealt g players h ok all is s seats table made t rest
    (λ u e. both_no_less g h s t u (next t order.0) (next_no_less g players h (belong g players h ok) t u e)) order.1 k d (omega (arith, l))

-- the point of a known all-in lies on its street
at_its_street : (game : Game) (t : ReplayState) (o : Option Point) (s : Street) (seats : List ℕ) (table : Table) → all_in_on game t (point_street o) ≡ Known s seats table → (found : Point) × (o ≡ Some found) × (found.street ≡ s)
unfolding known_there
at_its_street game t None s seats table is = cc
at_its_street game t (Some found) s seats table is =
    let m = made_of (known_there game t found.street) (eligible_in (pots (paid_in t))) s seats table is in
    (found, refl, m.street_is)

-- of a hand that is accepted
accepted_knows_no_less : PlacesAreApart → CardsBelongAfter → ShowsSeats → ShowsDead → KnowsAllDealt → (number : ℕ) (line : List ℕ) (lines : List (List ℕ)) (g : Header) → header_of line ≡ Ok g
    → (settlement : Settlement) (street : Street) (seats : List ℕ) (table : Table) (names : List (ℕ × List ℕ)) (players : ℕ)
    → audit_of number (line ∷ lines) ≡ Some (Accepted settlement (Known street seats table) names players)
    → All (KnowsNoLessThan table) (states_of g players (events_of g lines))
unfolding all_in_by
accepted_knows_no_less apart belong shows shows_dead dealt number line lines g read settlement street seats table names players is =
    let a = accepted_is number line lines g settlement (Known street seats table) names players read is in
    let end = sound_all g players number lines nothing (start g players) a.none in
    let h = events_of g lines in
    let ok = end.0.accepted in
    let t = table_of g players h in
    let at = at_its_street g.game t t.point street seats table a.found in
    let made = made_at g.game t (point_street t.point) street seats table a.found in
    let order = (in_order g players h ok at.0 at.1).order in
    all_more apart belong shows shows_dead dealt g players h ok (eligible_in (pots (paid_in t))) refl street seats table made street (later_streets g players h)
    (λ u e. next_no_less g players h (belong g players h ok) street u e) (subst (λ (x : Street). ComeInOrder g.game x (later_streets g players h)) at.2 order)

pub lines_know_no_less : PlacesAreApart → CardsBelongAfter → ShowsSeats → ShowsDead → KnowsAllDealt → (number : ℕ) (lines : List (List ℕ))
    → (settlement : Settlement) (street : Street) (seats : List ℕ) (table : Table) (names : List (ℕ × List ℕ)) (players : ℕ)
    → audit_of number lines ≡ Some (Accepted settlement (Known street seats table) names players)
    → All (KnowsNoLessThan table) (states_in lines)
lines_know_no_less apart belong shows shows_dead dealt number [] settlement street seats table names players is = cc
lines_know_no_less apart belong shows shows_dead dealt number (line ∷ rest) settlement street seats table names players is = by (header_of line) refl
  where
    by : (r : Result Header TextFault) → header_of line ≡ r → All (KnowsNoLessThan table) (states_behind rest r)
    by (Ok g) read =
        let a = accepted_is number line rest g settlement (Known street seats table) names players read is in
        subst (λ (n : ℕ). All (KnowsNoLessThan table) (states_of g n (events_of g rest))) (sym a.all_play)
        (accepted_knows_no_less apart belong shows shows_dead dealt number line rest g read settlement street seats table names players is)
    by (Err fault) read = λ k d l. absurd (omega (arith, l))
