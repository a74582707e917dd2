-- The cards that a walk has seen, and the first that it saw twice.
use Rattle.std.proofs.Common.{◌≡◌, ℕ, ◌<◌, Bool, true, false, cond, List, [], ◌∷◌, ◌++◌, refl, sym, ap, ◌∙◌, Some, None}
use Rattle.std.specs.Prelude.{Option}
use Rattle.card_sets.specs.Cards.{has_card, with_card}
use Rattle.spot_text.specs.declared.walk.Seen.{Seen}
use Rattle.spot_text.specs.Spot.{repeated_after}
use Rattle.spot_text.specs.Collected.{IsSeen, twice_or}
use Rattle.spot_text.proofs.CardsByWord.{set_of_more, has_seen}

-- after the last the first that stands twice is found
pub seen_whole : (seen : Seen) (left all : List ℕ) → IsSeen seen left all → left ≡ [] → seen.twice ≡ repeated_after [] all
seen_whole seen left all h none = at seen.twice (sym (h.same ∙ ap (λ l. twice_or seen.twice (repeated_after h.front l)) none))
  where
    at : (o : Option ℕ) → twice_or o None ≡ repeated_after [] all → o ≡ repeated_after [] all
    at None e = e
    at (Some card) e = e

pub seen_left : (seen : Seen) (left left' all : List ℕ) → IsSeen seen left all → left ≡ left' → IsSeen seen left' all
seen_left seen left left' all h e = record { front = h.front; is = h.is; same = h.same ∙ ap (λ l. twice_or seen.twice (repeated_after h.front l)) e }

-- one card more
pub seen_next : (seen seen' : Seen) (card : ℕ) (left all : List ℕ) → IsSeen seen (card ∷ left) all → card < 52 → seen'.cards ≡ with_card seen.cards card →
    seen'.twice ≡ twice_or seen.twice (cond (has_card seen.cards card) (Some card) None) → IsSeen seen' left all
seen_next seen seen' card left all h deck added twice = record {
  front = h.front ++ card ∷ [];
  is = added ∙ ap (λ s. with_card s card) h.is ∙ set_of_more h.front card;
  same = h.same ∙ at seen.twice (has_card seen.cards card) (has_seen seen.cards h.front card h.is deck)
      ∙ ap (λ o. twice_or o (repeated_after (h.front ++ card ∷ []) left)) (sym twice);
}
  where
    at : (o : Option ℕ) (b : Bool) → has_card h.front card ≡ b →
        twice_or o (repeated_after h.front (card ∷ left)) ≡ twice_or (twice_or o (cond b (Some card) None)) (repeated_after (h.front ++ card ∷ []) left)
    at (Some other) b e = refl
    at None true e = rw e refl
    at None false e = rw e refl
