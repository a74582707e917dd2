-- The later streets of an accepted hand come one after the other: `law_later_streets_come_in_order`.
use Rattle.std.proofs.Common.{◌≡◌, ℕ, List, [], ◌∷◌, refl, sym, ap, subst, map}
use Rattle.std.specs.Prelude.{Some, Ok}
use Rattle.card_sets.specs.declared.games.Game.{Game}
use Rattle.card_sets.specs.declared.streets.Street.{Street as StreetName}
use Rattle.hand_events.specs.declared.events.Header.{Header}
use Rattle.hand_events.specs.declared.events.Event.{Event}
use Rattle.history_text.specs.Headers.{header_of}
use Rattle.pot_layers.specs.Pots.{pots}
use Rattle.betting_replay.specs.declared.points.Point.{Point}
use Rattle.betting_replay.specs.Accepted.{IsAccepted}
use Rattle.betting_replay.specs.Later.{later_streets}
use Rattle.betting_replay.specs.Table.{ReplayState}
use Rattle.betting_replay.specs.TableAfter.{table_of, point}
use Rattle.hand_audit.specs.LaterOrder.{ComeInOrder}
use Rattle.hand_audit.specs.Streets.{state_on, states_of}
use Rattle.hand_verdict.specs.declared.streets.StreetState.{StreetState}
use Rattle.hand_verdict.specs.declared.verdicts.AllIn.{AllIn}
use Rattle.hand_verdict.specs.declared.verdicts.HandAudit.TheVariants.{Accepted}
use Rattle.hand_verdict.specs.declared.settlement.Settlement.{Settlement}
use Rattle.hand_audit.specs.AllIns.{eligible_in}
use Rattle.hand_audit.specs.Lines.{nothing}
use Rattle.hand_audit.specs.Showings.{paid_in}
use Rattle.hand_audit.specs.Verdict.{audit_of, events_of}
use Rattle.hand_audit.proofs.CallerLemmas.{sound_all, start, accepted_is, in_order}

-- the streets of what is known on some streets
same_streets : (game : Game) (t : ReplayState) (eligible : List ℕ) (streets : List StreetName) → map (λ (state : StreetState). state.street) (map (state_on game t eligible) streets) ≡ streets
same_streets game t eligible [] = refl
same_streets game t eligible (s ∷ rest) = ap (λ (l : List StreetName). s ∷ l) (same_streets game t eligible rest)

pub states_in_order : (g : Header) (players : ℕ) (h : List Event) (t : ReplayState) (eligible : List ℕ) → IsAccepted g players h → (found : Point) → point g players h ≡ Some found
    → ComeInOrder g.game found.street (map (λ (state : StreetState). state.street) (map (state_on g.game t eligible) (later_streets g players h)))
states_in_order g players h t eligible ok found is = subst (ComeInOrder g.game found.street) (sym (same_streets g.game t eligible (later_streets g players h))) (in_order g players h ok found is).order

-- of a hand that is accepted
pub accepted_in_order : (number : ℕ) (line : List ℕ) (lines : List (List ℕ)) (g : Header) → header_of line ≡ Ok g
    → (settlement : Settlement) (all_in : AllIn) (names : List (ℕ × List ℕ)) (players : ℕ)
    → audit_of number (line ∷ lines) ≡ Some (Accepted settlement all_in names players)
    → (found : Point) → point g players (events_of g lines) ≡ Some found → ComeInOrder g.game found.street (map (λ (state : StreetState). state.street) (states_of g players (events_of g lines)))
accepted_in_order number line lines g read settlement all_in names players is found e =
    let a = accepted_is number line lines g settlement all_in names players read is in
    let end = sound_all g players number lines nothing (start g players) a.none in
    let h = events_of g lines in
    states_in_order g players h (table_of g players h) (eligible_in (pots (paid_in (table_of g players h)))) end.0.accepted found e
