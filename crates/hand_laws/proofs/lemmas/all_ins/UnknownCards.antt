-- An all-in of an accepted hand is unknown only where the cards of a contender are: `law_unknown_all_ins_have_unknown_cards`.
use Rattle.std.proofs.Common.{◌≡◌, ℕ, ◌<◌, ◌≤◌, List, [], ◌∷◌, refl, sym, ap, ◌∙◌, subst, Bool, true, false, length, map, drop, arith}
use Rattle.std.specs.Prelude.{Option, Some, None, is_some, nat_le, slice_index_or, if◌then◌else◌, Ok}
use Rattle.std.specs.List.{list_all}
use Rattle.std.proofs.lemmas.List.{length-map}
use Rattle.card_sets.specs.PlayerSets.{all_within, seats_in}
use Rattle.card_sets.specs.Disjoint.{all_apart, all_empty}
use Rattle.card_sets.specs.Games.{all_fit}
use Rattle.card_sets.specs.declared.streets.Street.{Street}
use Rattle.hand_events.specs.declared.events.Header.{Header}
use Rattle.hand_events.specs.declared.events.Event.{Event}
use Rattle.history_text.specs.Headers.{header_of}
use Rattle.pot_layers.specs.Pots.{pots}
use Rattle.betting_replay.specs.declared.points.Point.{Point}
use Rattle.betting_replay.specs.Accepted.{IsAccepted, ShowsSeats, ShowsDead}
use Rattle.betting_replay.specs.AllIn.{point_street, point_contenders, dead_at}
use Rattle.betting_replay.specs.Boards.{board_up_to}
use Rattle.betting_replay.specs.CardLaws.{PlacesAreApart, CardsBelongAfter, WholeBoards, MarkersFit}
use Rattle.betting_replay.specs.Known.{cards_at}
use Rattle.betting_replay.specs.Seats.{by_seat}
use Rattle.betting_replay.specs.Table.{ReplayState, known_at}
use Rattle.betting_replay.specs.TableAfter.{table_of, point, dead_cards}
use Rattle.betting_replay.proofs.CallerLemmas.{at_by_seat}
use Rattle.showdown_tally.specs.declared.table.Table.{Table}
use Rattle.hand_audit.specs.AllIns.{cards_or_none, bare_of, all_in_at, known_with, known_there, eligible_in, all_in_on, all_in_by, all_in_of}
use Rattle.hand_laws.specs.CardsKnown.{all_known_at}
use Rattle.hand_audit.specs.KnownTables.{Bare, ten, holds, table_if, table_from}
use Rattle.hand_audit.specs.Showings.{paid_in}
use Rattle.hand_audit.specs.declared.at_point.AtPoint.{AtPoint}
use Rattle.hand_verdict.specs.declared.verdicts.AllIn.TheVariants.{None as NoAllIn, Unknown, Known}
use Rattle.hand_verdict.specs.declared.verdicts.HandAudit.TheVariants.{Accepted}
use Rattle.hand_verdict.specs.declared.settlement.Settlement.{Settlement}
use Rattle.hand_audit.specs.Lines.{nothing}
use Rattle.hand_audit.specs.Verdict.{audit_of, events_of}
use Rattle.hand_audit.proofs.CallerLemmas.{accepted_is, few_pots, few_seats, same_all, some_is, sound_all, start}
use Rattle.hand_laws.proofs.lemmas.all_ins.KnownTable.{Stands, stands, empty_behind, within_ten}

-- what stands together makes a table
holds_by : (b : Bare) → nat_le b.count 10 ≡ true → all_apart (b.board ∷ b.dead ∷ b.hands) ≡ true → all_empty (drop b.count b.hands) ≡ true → all_fit b.game b.board b.hands ≡ true → nat_le b.pots 10 ≡ true → all_within b.count b.eligible ≡ true → holds b ≡ true
holds_by b few disjoint unused fitting few_pots in_hands = rw (few, disjoint, unused, fitting, few_pots, in_hands) refl

bare_holds : (p : AtPoint) (all : List ℕ) → length all ≤ 10 → Stands p.game (map (cards_or_none p.cards) (seats_in p.contenders)) p.board p.dead → holds (bare_of p all) ≡ true
unfolding bare_of
bare_holds p all few s =
    let xs = seats_in p.contenders in
    let hands = map (cards_or_none p.cards) xs in
    let size : length hands ≡ length xs = length-map xs (cards_or_none p.cards) in
    let count : nat_le (length xs) 10 ≡ true = (let l = few_seats p.contenders in grind (arith, l)) in
    let unused : all_empty (drop (length xs) (ten [] hands)) ≡ true = ap (λ n. all_empty (drop n (ten [] hands))) (sym size) ∙ empty_behind hands in
    let some_pots : nat_le (length all) 10 ≡ true = grind (arith, few) in
    holds_by (bare_of p all) count s.disjoint unused s.fitting some_pots (within_ten xs all)

some_table : (b : Bare) → holds b ≡ true → is_some (table_from b) ≡ true
unfolding table_from
some_table b h = by (holds b) refl
  where
    by : (known : Bool) (e : holds b ≡ known) → is_some (table_if b known e) ≡ true
    by true e = refl
    by false e = cc

not_known : (street : Street) (seats : List ℕ) (o : Option Table) → is_some o ≡ true → known_with street seats o ≡ Unknown → ⊥
not_known street seats None some is = cc
not_known street seats (Some table) some is = apart street (ten 0 seats) table is
  where
    apart : (street : Street) (seats : List ℕ) (table : Table) → Known street seats table ≡ Unknown → ⊥
    apart street seats table e = cc

unknown_at : (p : AtPoint) (all : List ℕ) → length all ≤ 10 → (list_all (λ q. is_some (slice_index_or p.cards q None)) (seats_in p.contenders) ≡ true → Stands p.game (map (cards_or_none p.cards) (seats_in p.contenders)) p.board p.dead)
    → all_in_at p all ≡ Unknown → list_all (λ q. is_some (slice_index_or p.cards q None)) (seats_in p.contenders) ≡ false
unfolding all_in_at
unknown_at p all few s is = by (list_all (λ q. is_some (slice_index_or p.cards q None)) (seats_in p.contenders)) refl is
  where
    by : (b : Bool) → list_all (λ q. is_some (slice_index_or p.cards q None)) (seats_in p.contenders) ≡ b
        → (if b then known_with p.street (seats_in p.contenders) (table_from (bare_of p all)) else Unknown) ≡ Unknown → b ≡ false
    by true e h = absurd (not_known p.street (seats_in p.contenders) (table_from (bare_of p all)) (some_table (bare_of p all) (bare_holds p all few (s e))) h)
    by false e h = refl

differ : NoAllIn ≡ Unknown → ⊥
differ e = cc

-- on any street, of the contenders at the point
pub unknown_on : PlacesAreApart → CardsBelongAfter → WholeBoards → ShowsSeats → ShowsDead → (g : Header) (players : ℕ) (h : List Event) → IsAccepted g players h → MarkersFit g.game h
    → (found : Point) → point g players h ≡ Some found → (street : Street) → all_in_at (known_there g.game (table_of g players h) street) (eligible_in (pots (paid_in (table_of g players h)))) ≡ Unknown
    → list_all (λ p. is_some (cards_at g h p street)) (seats_in found.contenders) ≡ false
unfolding known_there
unknown_on apart belong boards shows shows_dead g players h ok markers found e street made =
    same_all (λ p. is_some (cards_at g h p street)) (λ q. is_some (slice_index_or cards q None)) found.contenders (λ q l. ap is_some (sym (cards_are q l)))
    ∙ ap (λ n. list_all (λ q. is_some (slice_index_or cards q None)) (seats_in n)) (sym (ap point_contenders e))
    ∙ unknown_at (known_there g.game t street) all_pots few together made
  where
    t : ReplayState
    t = table_of g players h

    all_pots : List ℕ
    all_pots = eligible_in (pots (paid_in t))

    few : length all_pots ≤ 10
    few = let m : length all_pots ≡ length (pots (paid_in t)) = length-map (pots (paid_in t)) (λ pot. pot.eligible) in omega (arith, m, few_pots t)

    cards : List (Option (List ℕ))
    cards = by_seat (λ p. known_at t p street)

    cards_are : (q : ℕ) → q < 11 → slice_index_or cards q None ≡ cards_at g h q street
    cards_are q l = at_by_seat (λ p. known_at t p street) q None l ∙ (shows g players h q l).known street

    each : (q : ℕ) → 1 ≤ q → q ≤ 10 → is_some (slice_index_or cards q None) ≡ true → cards_at g h q street ≡ Some (cards_or_none cards q)
    each q l m k = sym (cards_are q (omega (arith, m))) ∙ some_is (slice_index_or cards q None) k

    together : list_all (λ q. is_some (slice_index_or cards q None)) (seats_in (point_contenders t.point)) ≡ true
        → Stands g.game (map (cards_or_none cards) (seats_in (point_contenders t.point))) (board_up_to h street) (dead_at t)
    together all =
        let w : point_contenders t.point ≡ found.contenders = ap point_contenders e in
        subst (λ (out : List ℕ). Stands g.game (map (cards_or_none cards) (seats_in (point_contenders t.point))) (board_up_to h street) out) (sym (shows_dead g players h))
        (subst (λ (n : ℕ). Stands g.game (map (cards_or_none cards) (seats_in n)) (board_up_to h street) (dead_cards g players h)) (sym w)
        (stands apart g players h found street (cards_or_none cards) (λ q. is_some (slice_index_or cards q None)) (belong g players h ok) (boards.boards g players h ok markers) e each
        (ap (λ n. list_all (λ q. is_some (slice_index_or cards q None)) (seats_in n)) (sym w) ∙ all)))

pub unknown_cards : PlacesAreApart → CardsBelongAfter → WholeBoards → ShowsSeats → ShowsDead → (g : Header) (players : ℕ) (h : List Event) → IsAccepted g players h → MarkersFit g.game h → all_in_of g players h ≡ Unknown
    → all_known_at g h (point g players h) ≡ false
unfolding all_in_by
unknown_cards apart belong boards shows shows_dead g players h ok markers is = by (point g players h) refl is
  where
    by : (o : Option Point) → point g players h ≡ o → all_in_on g.game (table_of g players h) (point_street o) ≡ Unknown → all_known_at g h o ≡ false
    by None e made = absurd (differ made)
    by (Some found) e made = unknown_on apart belong boards shows shows_dead g players h ok markers found e found.street made

-- of a hand that is accepted
pub accepted_unknown : PlacesAreApart → CardsBelongAfter → WholeBoards → ShowsSeats → ShowsDead → (number : ℕ) (line : List ℕ) (lines : List (List ℕ)) (g : Header) → header_of line ≡ Ok g
    → (settlement : Settlement) (names : List (ℕ × List ℕ)) (players : ℕ)
    → audit_of number (line ∷ lines) ≡ Some (Accepted settlement Unknown names players) → all_known_at g (events_of g lines) (point g players (events_of g lines)) ≡ false
accepted_unknown apart belong boards shows shows_dead number line lines g read settlement names players is =
    let a = accepted_is number line lines g settlement Unknown names players read is in
    let end = sound_all g players number lines nothing (start g players) a.none in
    unknown_cards apart belong boards shows shows_dead g players (events_of g lines) end.0.accepted end.0.markers a.found
