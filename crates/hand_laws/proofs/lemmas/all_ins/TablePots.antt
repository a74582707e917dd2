-- The table of an all-in has the pots of the hand: `law_a_table_has_the_pots_of_the_hand`.
use Rattle.std.proofs.Common.{◌≡◌, ◌-◌, ℕ, zero, suc, ◌<◌, ◌≤◌, List, [], ◌∷◌, sym, ap, ◌∙◌, ◌==◌, length, length-append, map, take, arith, subst}
use Rattle.std.specs.Prelude.{Some, replicate, slice_get, slice_index_or, Ok}
use Rattle.std.specs.Int.{bit_at}
use Rattle.std.proofs.lemmas.List.{length-map, length-take-le}
use Rattle.card_sets.specs.PlayerSetLaws.{has_player-where}
use Rattle.card_sets.specs.PlayerSets.{has_player, seats_in, hands_of}
use Rattle.card_sets.specs.declared.streets.Street.{Street}
use Rattle.hand_events.specs.declared.events.Header.{Header}
use Rattle.hand_events.specs.declared.events.Event.{Event}
use Rattle.history_text.specs.Headers.{header_of}
use Rattle.pot_layers.specs.Pots.{pots}
use Rattle.betting_replay.specs.AllIn.{point_street, point_contenders}
use Rattle.betting_replay.specs.Table.{ReplayState}
use Rattle.betting_replay.specs.TableAfter.{table_of}
use Rattle.showdown_tally.specs.Deals.{deal_of}
use Rattle.showdown_tally.specs.declared.table.Table.{Table}
use Rattle.hand_audit.specs.AllIns.{bare_of, known_there, eligible_in, all_in_by, all_in_of}
use Rattle.hand_audit.specs.KnownTables.{Bare, ten, places_in}
use Rattle.hand_audit.specs.PotSeats.{eligible_of}
use Rattle.hand_audit.specs.Settle.{settled}
use Rattle.hand_audit.specs.Showings.{paid_in, showing_of}
use Rattle.hand_laws.specs.TablePots.{HasPotsOf}
use Rattle.hand_audit.specs.Verdict.{settlement_of, audit_of, events_of}
use Rattle.hand_verdict.specs.declared.verdicts.AllIn.TheVariants.{Known}
use Rattle.hand_verdict.specs.declared.settlement.PotLine.{PotLine}
use Rattle.hand_verdict.specs.declared.verdicts.HandAudit.TheVariants.{Accepted}
use Rattle.hand_verdict.specs.declared.settlement.Settlement.{Settlement}
use Rattle.hand_audit.proofs.CallerLemmas.{IsMade, accepted_is, few_pots, in_map, in_ten, made_at, paid_shown, settled_same}

-- a pot by its number
record IsAt (lines : List PotLine) (number : ℕ) (pot : PotLine) : Type 0 where
  inside : number < length lines
  seats : slice_index_or (eligible_of lines) number 0 ≡ pot.eligible

pot_at : (lines : List PotLine) (number : ℕ) (pot : PotLine) → slice_get lines number ≡ Some pot → IsAt lines number pot
pot_at [] number pot is = cc
pot_at (line ∷ lines) zero pot is = (let same : line ≡ pot = cc in record { inside = omega arith; seats = ap (λ (x : PotLine). x.eligible) same })
pot_at (line ∷ lines) (suc number) pot is = (let later = pot_at lines number pot is in record { inside = omega (arith, later.inside); seats = later.seats })

-- ten places hold at least as many as a list has
ten_holds : (xs : List ℕ) → length xs ≤ length (ten 0 xs)
unfolding ten
ten_holds xs = omega (arith, length-append xs (replicate (10 - length xs) 0))

-- a seat of a set, by its place
place_set : (seats : List ℕ) (set i : ℕ) → i < length seats → (bit_at (places_in seats set) i == 1) ≡ has_player set (slice_index_or seats i 0)
unfolding places_in
place_set seats set i l = has_player-where (λ j. bit_at set (slice_index_or seats j 0) == 1) (length seats) i l

pub table_pots : (g : Header) (players : ℕ) (h : List Event) (street : Street) (seats : List ℕ) (table : Table) → all_in_of g players h ≡ Known street seats table → HasPotsOf (settlement_of g players h) seats table
unfolding all_in_by known_there bare_of
table_pots g players h street seats table is = record { many = many; few = few; eligible = eligible }
  where
    t : ReplayState
    t = table_of g players h

    xs : List ℕ
    xs = seats_in (point_contenders t.point)

    lines : List PotLine
    lines = (settled (showing_of g players h)).pots

    all : List ℕ
    all = eligible_in (pots (paid_in t))

    made : IsMade (known_there g.game t street) all street seats table
    made = made_at g.game t (point_street t.point) street seats table is

    same : eligible_of lines ≡ all
    same = settled_same (showing_of g players h) ∙ ap (λ paid. eligible_in (pots paid)) (paid_shown g players h)

    as_many : length lines ≡ length all
    as_many = sym (length-map lines (λ pot. pot.eligible)) ∙ ap length same

    few : length lines ≤ 10
    few = (let n : length all ≡ length (pots (paid_in t)) = length-map (pots (paid_in t)) (λ pot. pot.eligible) in omega (arith, as_many, n, few_pots t))

    count : table.known.count ≡ length xs
    count = ap (λ (b : Bare). b.count) made.bare_is

    places : List ℕ
    places = map (places_in xs) all

    in_places : table.eligible ≡ ten 0 places
    in_places = ap (λ (b : Bare). b.eligible) made.bare_is

    mapped : length places ≡ length all
    mapped = length-map all (places_in xs)

    number_is : table.pots ≡ length all
    number_is = ap (λ (b : Bare). b.pots) made.bare_is

    many : length (deal_of table).pots ≡ length lines
    many =
        let room : length places ≤ length table.eligible = omega (arith, ten_holds places, ap length in_places) in
        length-map (take table.pots table.eligible) hands_of ∙ length-take-le table.pots table.eligible (omega (arith, number_is, mapped, room)) ∙ number_is ∙ sym as_many

    eligible : (number : ℕ) (pot : PotLine) → slice_get lines number ≡ Some pot → (i : ℕ) → i < table.known.count
        → (bit_at (slice_index_or table.eligible number 0) i == 1) ≡ has_player pot.eligible (slice_index_or seats i 0)
    eligible number pot at i l =
        let there = pot_at lines number pot at in
        let inside : number < length all = omega (arith, there.inside, as_many) in
        let first : i < length xs = omega (arith, l, count) in
        let its_place : slice_index_or table.eligible number 0 ≡ places_in xs (slice_index_or all number 0)
        = ap (λ p. slice_index_or p number 0) in_places ∙ in_ten 0 places number 0 (omega (arith, inside, mapped)) ∙ in_map (places_in xs) all number 0 inside in
        let its_seats : slice_index_or all number 0 ≡ pot.eligible = ap (λ p. slice_index_or p number 0) (sym same) ∙ there.seats in
        let seat : slice_index_or seats i 0 ≡ slice_index_or xs i 0 = ap (λ s. slice_index_or s i 0) made.seats_are ∙ in_ten 0 xs i 0 first in
        ap (λ n. bit_at n i == 1) (its_place ∙ ap (places_in xs) its_seats) ∙ place_set xs pot.eligible i first ∙ ap (has_player pot.eligible) (sym seat)

-- of a hand that is accepted
pub accepted_pots : (number : ℕ) (line : List ℕ) (lines : List (List ℕ)) (g : Header) → header_of line ≡ Ok g
    → (settlement : Settlement) (street : Street) (seats : List ℕ) (table : Table) (names : List (ℕ × List ℕ)) (players : ℕ)
    → audit_of number (line ∷ lines) ≡ Some (Accepted settlement (Known street seats table) names players) → HasPotsOf settlement seats table
accepted_pots number line lines g read settlement street seats table names players is =
    let a = accepted_is number line lines g settlement (Known street seats table) names players read is in
    subst (λ (x : Settlement). HasPotsOf x seats table) a.made (table_pots g players (events_of g lines) street seats table a.found)
