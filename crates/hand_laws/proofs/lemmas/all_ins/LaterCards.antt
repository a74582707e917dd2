-- What is known on the later streets of an accepted hand: `law_later_streets_know_cards`.
use Rattle.std.proofs.Common.{◌≡◌, ℕ, zero, suc, List, [], ◌∷◌, refl, ap, subst, Bool, true, false, arith}
use Rattle.std.specs.Prelude.{Option, Some, None, All, is_some, slice_index_or, if◌then◌else◌, Ok}
use Rattle.std.specs.List.{list_all}
use Rattle.card_sets.specs.PlayerSets.{seats_in}
use Rattle.card_sets.specs.declared.streets.Street.{Street}
use Rattle.hand_events.specs.declared.events.Header.{Header}
use Rattle.hand_events.specs.declared.events.Event.{Event}
use Rattle.history_text.specs.Headers.{header_of}
use Rattle.pot_layers.specs.Pots.{pots}
use Rattle.betting_replay.specs.declared.points.Point.{Point}
use Rattle.betting_replay.specs.Accepted.{IsAccepted, ShowsSeats, ShowsDead}
use Rattle.betting_replay.specs.AllIn.{point_contenders}
use Rattle.betting_replay.specs.CardLaws.{PlacesAreApart, CardsBelongAfter, WholeBoards, MarkersFit}
use Rattle.betting_replay.specs.TableAfter.{table_of, point}
use Rattle.betting_replay.specs.Later.{later_streets}
use Rattle.showdown_tally.specs.declared.table.Table.{Table}
use Rattle.hand_audit.specs.AllIns.{bare_of, all_in_at, known_with, known_there, eligible_in}
use Rattle.hand_audit.specs.CardsKnown.{KnowsCards}
use Rattle.hand_audit.specs.KnownTables.{ten, table_from}
use Rattle.hand_laws.specs.LaterCards.{IsKnownOn}
use Rattle.hand_audit.specs.Showings.{paid_in}
use Rattle.hand_audit.specs.Streets.{table_in, state_on, states_on, states_of}
use Rattle.hand_audit.specs.declared.at_point.AtPoint.{AtPoint}
use Rattle.hand_verdict.specs.declared.verdicts.AllIn.TheVariants.{Unknown}
use Rattle.hand_verdict.specs.declared.verdicts.AllIn.{AllIn}
use Rattle.hand_verdict.specs.declared.verdicts.HandAudit.TheVariants.{Accepted}
use Rattle.hand_verdict.specs.declared.settlement.Settlement.{Settlement}
use Rattle.hand_audit.specs.Lines.{nothing}
use Rattle.hand_audit.specs.Verdict.{audit_of, events_of}
use Rattle.hand_audit.proofs.CallerLemmas.{made_of, known_is, known_made, sound_all, start, accepted_is}
use Rattle.hand_laws.proofs.lemmas.all_ins.UnknownCards.{unknown_on}

-- an all-in at a point is known or unknown
none_is : (p : AtPoint) (all : List ℕ) → table_in (all_in_at p all) ≡ None → all_in_at p all ≡ Unknown
unfolding all_in_at
none_is p all is = by (list_all (λ q. is_some (slice_index_or p.cards q None)) (seats_in p.contenders)) is
  where
    from : (o : Option Table) → table_in (known_with p.street (seats_in p.contenders) o) ≡ None → known_with p.street (seats_in p.contenders) o ≡ Unknown
    from None h = refl
    from (Some t) h = cc

    by : (b : Bool) → table_in (if b then known_with p.street (seats_in p.contenders) (table_from (bare_of p all)) else Unknown) ≡ None
        → (if b then known_with p.street (seats_in p.contenders) (table_from (bare_of p all)) else Unknown) ≡ Unknown
    by true h = from (table_from (bare_of p all)) h
    by false h = refl

pub known_on : PlacesAreApart → CardsBelongAfter → WholeBoards → ShowsSeats → ShowsDead → (g : Header) (players : ℕ) (h : List Event) → IsAccepted g players h → MarkersFit g.game h
    → (found : Point) → point g players h ≡ Some found → (street : Street) → IsKnownOn g players h found (state_on g.game (table_of g players h) (eligible_in (pots (paid_in (table_of g players h)))) street)
unfolding known_there
known_on apart belong boards shows shows_dead g players h ok markers found e street =
    let t = table_of g players h in
    let all = eligible_in (pots (paid_in t)) in
    record {
      unknown = λ none. unknown_on apart belong boards shows shows_dead g players h ok markers found e street (none_is (known_there g.game t street) all none);
      known = λ table is. subst (λ (n : ℕ). KnowsCards g players h street (ten 0 (seats_in n)) table) (ap point_contenders e)
          (known_made apart belong shows shows_dead g players h street (ten 0 (seats_in (point_contenders t.point))) table ok
          (made_of (known_there g.game t street) all street (ten 0 (seats_in (point_contenders t.point))) table (known_is (known_there g.game t street) all table is)));
    }

pub all_known_on : PlacesAreApart → CardsBelongAfter → WholeBoards → ShowsSeats → ShowsDead → (g : Header) (players : ℕ) (h : List Event) → IsAccepted g players h → MarkersFit g.game h
    → (found : Point) → point g players h ≡ Some found → (streets : List Street) → All (IsKnownOn g players h found) (states_on g.game (table_of g players h) streets)
all_known_on apart belong boards shows shows_dead g players h ok markers found e [] k d l = absurd (omega (arith, l))
all_known_on apart belong boards shows shows_dead g players h ok markers found e (street ∷ streets) zero d l = known_on apart belong boards shows shows_dead g players h ok markers found e street
all_known_on apart belong boards shows shows_dead g players h ok markers found e (street ∷ streets) (suc k) d l =
    all_known_on apart belong boards shows shows_dead g players h ok markers found e streets k d (omega (arith, l))

-- of a hand that is accepted
pub accepted_later : PlacesAreApart → CardsBelongAfter → WholeBoards → ShowsSeats → ShowsDead → (number : ℕ) (line : List ℕ) (lines : List (List ℕ)) (g : Header) → header_of line ≡ Ok g
    → (settlement : Settlement) (all_in : AllIn) (names : List (ℕ × List ℕ)) (players : ℕ)
    → audit_of number (line ∷ lines) ≡ Some (Accepted settlement all_in names players)
    → (found : Point) → point g players (events_of g lines) ≡ Some found → All (IsKnownOn g players (events_of g lines) found) (states_of g players (events_of g lines))
accepted_later apart belong boards shows shows_dead number line lines g read settlement all_in names players is found e =
    let a = accepted_is number line lines g settlement all_in names players read is in
    let end = sound_all g players number lines nothing (start g players) a.none in
    all_known_on apart belong boards shows shows_dead g players (events_of g lines) end.0.accepted end.0.markers found e (later_streets g players (events_of g lines))
