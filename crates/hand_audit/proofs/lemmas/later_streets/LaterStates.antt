-- What is known on the later streets of a hand, by what is kept of its lines.
use Rattle.std.proofs.Common.{◌≡◌, ℕ, List, ◌∷◌, sym, ap, ◌∙◌, true, false, map}
use Rattle.std.specs.Prelude.{Some, Ok}
use Rattle.history_text.specs.Headers.{header_of}
use Rattle.hand_events.specs.declared.events.Header.{Header}
use Rattle.pot_layers.specs.declared.paid.Paid.{Paid}
use Rattle.pot_layers.specs.Pots.{pots}
use Rattle.betting_replay.specs.Table.{ReplayState}
use Rattle.betting_replay.specs.TableAfter.{table_of}
use Rattle.hand_verdict.specs.declared.cause.Cause.{Cause}
use Rattle.hand_audit.specs.declared.hand.AuditState.{AuditState}
use Rattle.hand_audit.specs.declared.settling.HandSettled.{HandSettled}
use Rattle.hand_audit.specs.AllIns.{eligible_in}
use Rattle.hand_audit.specs.Departs.{departs_from}
use Rattle.hand_audit.specs.Keeping.{Keeps}
use Rattle.hand_audit.specs.Lines.{SoFar, nothing, players_of}
use Rattle.hand_audit.specs.PotSeats.{eligible_of}
use Rattle.hand_audit.specs.Settle.{Settled}
use Rattle.hand_audit.specs.SettlementAnswers.{IsOfHand}
use Rattle.hand_audit.specs.Showings.{paid_in, showing_of}
use Rattle.hand_audit.specs.Streets.{state_on, states_of, states_behind, states_in, has_known_all_in}
use Rattle.hand_audit.specs.Verdict.{audit_of, events_of}
use Rattle.hand_audit.proofs.lemmas.tables.SettlementPots.{settled_same, paid_shown}
use Rattle.hand_audit.proofs.lemmas.lines.HandVerdict.{audit_departs}

unlike : true ≡ false → ⊥
unlike e = cc

pub none_departs : (n : ℕ) (all : List (List ℕ)) (line : List ℕ) (rest : List (List ℕ)) (g : Header) (players number : ℕ) (c : Cause) → all ≡ line ∷ rest → header_of line ≡ Ok g → players ≡ players_of g rest
    → has_known_all_in (audit_of n all) ≡ true → departs_from g players n nothing rest ≡ Some (number, c) → ⊥
none_departs n all line rest g players number c is read play known at = unlike (sym known ∙ ap has_known_all_in (audit_departs n all line rest g players number c is read play at))

-- what is known on the streets that are kept is what is said of those of the events
pub states_kept : (state : AuditState) (settled : HandSettled) (g : Header) (players : ℕ) (so_far : SoFar) (eligible : List ℕ) → Keeps state g players so_far → IsOfHand (showing_of g players so_far.events) settled
    → eligible ≡ eligible_of settled.pots → map (state_on g.game state.replay eligible) state.streets.items ≡ states_of g players so_far.events
states_kept state settled g players so_far eligible k made same =
    let s = showing_of g players so_far.events in
    let t = table_of g players so_far.events in
    let pots_same : eligible ≡ eligible_in (pots (paid_in t)) = same ∙ ap (λ (x : Settled). eligible_of x.pots) made.settled ∙ settled_same s ∙ ap (λ (ps : List Paid). eligible_in (pots ps)) (paid_shown g players so_far.events) in
    ap (λ (e : List ℕ). map (state_on g.game state.replay e) state.streets.items) pots_same
    ∙ ap (λ (x : ReplayState). map (state_on g.game x (eligible_in (pots (paid_in t)))) state.streets.items) k.stands.is
    ∙ ap (map (state_on g.game t (eligible_in (pots (paid_in t))))) k.streets

-- and these are those of the hand
pub states_are : (all : List (List ℕ)) (line : List ℕ) (rest : List (List ℕ)) (g : Header) (players : ℕ) → all ≡ line ∷ rest → header_of line ≡ Ok g → players ≡ players_of g rest → states_of g players (events_of g rest) ≡ states_in all
states_are all line rest g players is read play = ap (λ (n : ℕ). states_of g n (events_of g rest)) play ∙ sym (ap states_in is ∙ ap (states_behind rest) read)
