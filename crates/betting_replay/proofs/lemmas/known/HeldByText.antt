-- What a seat holds by the text belongs to it, and so does what it held when the last street began and hasn't thrown away face up since.
use Rattle.std.proofs.Common.{◌≡◌, ℕ, ◌<◌, List, [], ◌∷◌, refl, sym, ap, ◌∙◌, Bool, true, false, not, ◌&&◌, ◌==◌, inl, inr}
use Rattle.std.specs.Prelude.{if◌then◌else◌}
use mathlib.Core.Bool.{true≢false}
use Rattle.card_sets.specs.Cards.{has_card, union, minus}
use Rattle.card_sets.specs.Bits.{IsCardSet-cards_where}
use Rattle.hand_events.specs.declared.events.Header.{Header}
use Rattle.hand_events.specs.declared.events.Event.{Event}
use Rattle.hand_events.specs.declared.events.Event.TheVariants.{Discard}
use Rattle.betting_replay.specs.Accepted.{IsAccepted}
use Rattle.betting_replay.specs.CardLaws.{Among}
use Rattle.betting_replay.specs.Dealing.{is_late, held_before, thrown_late}
use Rattle.betting_replay.specs.Events.{seat_of}
use Rattle.betting_replay.specs.Hands.{dealt_by, held, held_after, is_discard}
use Rattle.betting_replay.specs.Places.{place_of, owned, thrown_by}
use Rattle.card_sets.proofs.CallerLemmas.{in_union, in_minus, union_left, union_right, of_deck}
use Rattle.betting_replay.proofs.lemmas.places.CardsBelong.{IsLeft, kept_left, own_more, own_here, dealt_named, no_card}
use Rattle.betting_replay.proofs.lemmas.places.CardSets.{held_set, before_set}

-- who throws a card away does so at his seat
thrown_place : (e : Event) (k : ℕ) → has_card (thrown_by e) k ≡ true → place_of e ≡ seat_of e
thrown_place (Discard seat count cards) k has = refl
thrown_place _ k has = absurd (no_card k has)

-- only a discard does
pub only_discards : (e : Event) (k : ℕ) → is_discard e ≡ false → has_card (thrown_by e) k ≡ true → ⊥
only_discards (Discard seat count cards) k other h = cc
only_discards _ k other h = no_card k h

-- the events of another seat take nothing away
pub other_left : (g : Header) (e : Event) (p k : ℕ) → (seat_of e == p) ≡ false → IsLeft g e p k
other_left g e p k other = kept_left g e p k (λ here gone. let same : place_of e ≡ seat_of e = thrown_place e k gone in true≢false (sym here ∙ ap (λ q. q == p) same ∙ other))

-- what a seat holds after its event it held before, or was dealt
step_own : (g : Header) (players : ℕ) (e : Event) (h : List Event) (p k : ℕ) (cards : List ℕ) → IsAccepted g players (e ∷ h) → (seat_of e == p) ≡ true
    → (has_card cards k ≡ true → has_card (owned g.game h p) k ≡ true) → has_card (held_after e cards) k ≡ true → has_card (owned g.game (e ∷ h) p) k ≡ true
step_own g players e h p k cards ok here before has =
    let w = in_minus (union cards (dealt_by e)) (thrown_by e) k has in
    let left : IsLeft g e p k = kept_left g e p k (λ there gone. w.2 gone) in
    elim (in_union cards (dealt_by e) k w.1).1 [
      | inl old ↦ own_more g players e h p k ok left (before old)
      | inr now ↦ own_here g players e h p k ok here w.0 left (dealt_named e k now)
    ]

pub held_own : (g : Header) (players : ℕ) (h : List Event) (p k : ℕ) → IsAccepted g players h → has_card (held h p) k ≡ true → has_card (owned g.game h p) k ≡ true
held_own g players [] p k ok has = absurd (no_card k has)
held_own g players (e ∷ h) p k ok has = by (seat_of e == p) refl (held_own g players h p k ok.2) has
  where
    by : (b : Bool) → (seat_of e == p) ≡ b → (has_card (held h p) k ≡ true → has_card (owned g.game h p) k ≡ true) → has_card (if b then held_after e (held h p) else held h p) k ≡ true
        → has_card (owned g.game (e ∷ h) p) k ≡ true
    by true here before has = step_own g players e h p k (held h p) ok here before has
    by false other before has = own_more g players e h p k ok (other_left g e p k other) (before has)

pub held_among : (g : Header) (players : ℕ) (h : List Event) (p : ℕ) → IsAccepted g players h → Among (held h p) (owned g.game h p)
held_among g players h p ok = record { set = held_set h p; each = λ k has. held_own g players h p k ok has }

-- what it held when the last street began, and hasn't thrown away since
left_own : (g : Header) (players : ℕ) (h : List Event) (p k : ℕ) → IsAccepted g players h → has_card (held_before g h p) k ≡ true → (has_card (thrown_late g h p) k ≡ true → ⊥) → has_card (owned g.game h p) k ≡ true
left_own g players [] p k ok has gone = absurd (no_card k has)
left_own g players (e ∷ h) p k ok has gone = by (seat_of e == p) (is_late g h e) refl (left_own g players h p k ok.2) has gone
  where
    by : (b late : Bool) → (seat_of e == p) ≡ b → (has_card (held_before g h p) k ≡ true → (has_card (thrown_late g h p) k ≡ true → ⊥) → has_card (owned g.game h p) k ≡ true)
        → has_card (if b && not late then held_after e (held_before g h p) else held_before g h p) k ≡ true
        → (has_card (if b && late then union (thrown_late g h p) (thrown_by e) else thrown_late g h p) k ≡ true → ⊥) → has_card (owned g.game (e ∷ h) p) k ≡ true
    by true false here before has gone = step_own g players e h p k (held_before g h p) ok here (λ old. before old gone) has
    by true true here before has gone =
        let low : k < 52 = of_deck (held_before g h p) k (before_set g h p) has in
        own_more g players e h p k ok (kept_left g e p k (λ there thrown. gone (union_right (thrown_late g h p) (thrown_by e) k low thrown)))
        (before has (λ old. gone (union_left (thrown_late g h p) (thrown_by e) k low old)))
    by false late other before has gone = own_more g players e h p k ok (other_left g e p k other) (before has gone)

pub left_among : (g : Header) (players : ℕ) (h : List Event) (p : ℕ) → IsAccepted g players h → Among (minus (held_before g h p) (thrown_late g h p)) (owned g.game h p)
left_among g players h p ok = record {
  set = IsCardSet-cards_where (λ k. has_card (held_before g h p) k && not (has_card (thrown_late g h p) k));
  each = λ k has. (let w = in_minus (held_before g h p) (thrown_late g h p) k has in left_own g players h p k ok w.1 w.2);
}
