-- What a known all-in of an accepted hand has is known there: `law_all_in_cards`.
use Rattle.std.proofs.Common.{◌≡◌, ℕ, List, ◌∷◌}
use Rattle.std.specs.Prelude.{Some, Ok}
use Rattle.card_sets.specs.declared.streets.Street.{Street}
use Rattle.hand_events.specs.declared.events.Header.{Header}
use Rattle.hand_events.specs.declared.events.Event.{Event}
use Rattle.history_text.specs.Headers.{header_of}
use Rattle.betting_replay.specs.Accepted.{IsAccepted, ShowsSeats, ShowsDead}
use Rattle.betting_replay.specs.AllIn.{point_street}
use Rattle.betting_replay.specs.CardLaws.{PlacesAreApart, CardsBelongAfter}
use Rattle.betting_replay.specs.TableAfter.{table_of}
use Rattle.showdown_tally.specs.declared.table.Table.{Table}
use Rattle.hand_audit.specs.AllIns.{all_in_by, all_in_of}
use Rattle.hand_audit.specs.CardsKnown.{KnowsCards}
use Rattle.hand_verdict.specs.declared.verdicts.AllIn.TheVariants.{Known}
use Rattle.hand_verdict.specs.declared.verdicts.HandAudit.TheVariants.{Accepted}
use Rattle.hand_verdict.specs.declared.settlement.Settlement.{Settlement}
use Rattle.hand_audit.specs.Lines.{nothing}
use Rattle.hand_audit.specs.Verdict.{audit_of, events_of}
use Rattle.hand_audit.proofs.CallerLemmas.{sound_all, start, accepted_is, made_at, known_made}

pub known_cards : PlacesAreApart → CardsBelongAfter → ShowsSeats → ShowsDead → (g : Header) (players : ℕ) (h : List Event) (street : Street) (seats : List ℕ) (table : Table) → IsAccepted g players h → all_in_of g players h ≡ Known street seats table
    → KnowsCards g players h street seats table
unfolding all_in_by
known_cards apart belong shows shows_dead g players h street seats table ok is =
    known_made apart belong shows shows_dead g players h street seats table ok (made_at g.game (table_of g players h) (point_street (table_of g players h).point) street seats table is)

-- of a hand that is accepted
pub accepted_knows : PlacesAreApart → CardsBelongAfter → ShowsSeats → ShowsDead → (number : ℕ) (line : List ℕ) (lines : List (List ℕ)) (g : Header) → header_of line ≡ Ok g
    → (settlement : Settlement) (street : Street) (seats : List ℕ) (table : Table) (names : List (ℕ × List ℕ)) (players : ℕ)
    → audit_of number (line ∷ lines) ≡ Some (Accepted settlement (Known street seats table) names players) → KnowsCards g players (events_of g lines) street seats table
accepted_knows apart belong shows shows_dead number line lines g read settlement street seats table names players is =
    let a = accepted_is number line lines g settlement (Known street seats table) names players read is in
    let end = sound_all g players number lines nothing (start g players) a.none in
    known_cards apart belong shows shows_dead g players (events_of g lines) street seats table end.0.accepted a.found
