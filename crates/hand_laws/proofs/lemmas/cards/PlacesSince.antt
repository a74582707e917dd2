-- Places by the events after the last that threw a card away, and cards that stay thrown away.
use Rattle.std.proofs.Common.{◌≡◌, ℕ, List, [], ◌∷◌, refl, ap, ◌∙◌, Bool, true, false, not, ◌&&◌}
use Rattle.std.specs.Prelude.{Option, Some, None, if◌then◌else◌}
use Rattle.card_sets.specs.Cards.{has_card, union, minus}
use Rattle.card_sets.specs.Bits.{cards_where_same}
use Rattle.card_sets.specs.Games.{may_come_again}
use Rattle.hand_events.specs.declared.events.Header.{Header}
use Rattle.hand_events.specs.declared.events.Event.{Event}
use Rattle.betting_replay.specs.Accepted.{IsAccepted}
use Rattle.betting_replay.specs.Events.{cards_named}
use Rattle.hand_laws.specs.PlaceLaws.{first_place, ever_thrown, since}
use Rattle.betting_replay.specs.Places.{place_of, place, thrown, thrown_by, lost_by}
use Rattle.betting_replay.specs.Seats.{or_else}
use Rattle.betting_replay.proofs.CallerLemmas.{named_new, nothing_lost, thrown_set}

pub since_is : (g : Header) (h : List Event) (card : ℕ) → place g.game h card ≡ first_place (since g h card) card
since_is g [] card = refl
since_is g (e ∷ h) card = by (has_card (lost_by g.game e) card) (since_is g h card)
  where
    now : Option ℕ
    now = if has_card (cards_named e) card then Some (place_of e) else None

    by : (b : Bool) → place g.game h card ≡ first_place (since g h card) card
        → (if b then None else or_else (place g.game h card) now) ≡ first_place (if b then [] else e ∷ since g h card) card
    by true ih = refl
    by false ih = ap (λ o. or_else o now) ih

pub first_is : (g : Header) (h : List Event) (card : ℕ) → may_come_again g.game ≡ false → place g.game h card ≡ first_place h card
first_is g [] card stays = refl
first_is g (e ∷ h) card stays = rw (nothing_lost g.game e stays, first_is g h card stays) refl

-- no accepted event names a card that was thrown away
stays_so : (g : Header) (players : ℕ) (e : Event) (h : List Event) → may_come_again g.game ≡ false → IsAccepted g players (e ∷ h) → minus (thrown h) (cards_named e) ≡ thrown h
stays_so g players e h stays ok = cards_where_same _ _ (λ k l. by (has_card (thrown h) k) (has_card (cards_named e) k) (λ old named. named_new g players e h k stays ok l named old)) ∙ thrown_set h
  where
    by : (a b : Bool) → (a ≡ true → b ≡ true → ⊥) → (a && not b) ≡ a
    by true true never = absurd (never refl refl)
    by true false never = refl
    by false b never = refl

pub stays_thrown : (g : Header) (players : ℕ) (h : List Event) → IsAccepted g players h → may_come_again g.game ≡ false → thrown h ≡ ever_thrown h
stays_thrown g players [] ok stays = refl
stays_thrown g players (e ∷ h) ok stays = ap (λ cards. union cards (thrown_by e)) (stays_so g players e h stays ok ∙ stays_thrown g players h ok.2 stays)
