-- Cards that are gathered word by word.
use Rattle.std.proofs.Common.{◌≡◌, ℕ, ◌<◌, ◌||◌, ◌==◌, List, [], ◌∷◌, ◌++◌, refl, sym, ap, ◌∙◌, Some, None, append_assoc, append-nil}
use Rattle.std.specs.Prelude.{Option}
use Rattle.card_sets.specs.Cards.{cards_where, has_card, with_card}
use Rattle.card_sets.specs.CardText.{card_of_text}
use Rattle.card_sets.specs.Bits.{cards_where_same, has-cards_where}
use Rattle.card_sets.specs.Rising.{has_card-push}
use Rattle.spot_text.specs.Parts.{cards_of, set_of}

-- the set of no card has no card
pub set_of-nil : set_of [] ≡ []
unfolding cards_where
set_of-nil = refl

-- the set of some cards, with one card more
pub set_of_more : (cards : List ℕ) (card : ℕ) → with_card (set_of cards) card ≡ set_of (cards ++ card ∷ [])
set_of_more cards card = cards_where_same _ _ (λ k inside.
    ap (λ b. (k == card) || b) (has-cards_where (has_card cards) k inside) ∙ sym (has_card-push cards card k))

-- the set has the front of the cards, and the others are left
pub record Gathered (set left all : List ℕ) : Type 0 where
  pub front : List ℕ
  pub is : set ≡ set_of front
  pub whole : front ++ left ≡ all

pub gathered_none : (set all : List ℕ) → set ≡ [] → Gathered set all all
gathered_none set all empty = record { front = []; is = empty ∙ sym set_of-nil; whole = refl }

pub gathered_all : (set left all : List ℕ) → Gathered set left all → left ≡ [] → set ≡ set_of all
gathered_all set left all h none =
    h.is ∙ ap set_of (sym (append-nil h.front) ∙ ap (λ l. h.front ++ l) (sym none) ∙ h.whole)

pub gathered_card : (set set' : List ℕ) (part : List (List ℕ)) (left all : List ℕ) (card : ℕ) → Gathered set left all → left ≡ card ∷ cards_of part →
    set' ≡ with_card set card → Gathered set' (cards_of part) all
gathered_card set set' part left all card h more step = record {
  front = h.front ++ card ∷ [];
  is = step ∙ ap (λ s. with_card s card) h.is ∙ set_of_more h.front card;
  whole = append_assoc h.front (card ∷ []) (cards_of part) ∙ ap (λ l. h.front ++ l) (sym more) ∙ h.whole;
}

-- whether a card is among those that were seen
pub has_seen : (seen front : List ℕ) (card : ℕ) → seen ≡ set_of front → card < 52 → has_card front card ≡ has_card seen card
has_seen seen front card is deck = sym (has-cards_where (has_card front) card deck) ∙ ap (λ s. has_card s card) (sym is)

-- the cards of the words that are left
pub cards_more : (w : List ℕ) (ws left : List (List ℕ)) (card : ℕ) (o : Option ℕ) → left ≡ w ∷ ws → o ≡ card_of_text w → o ≡ Some card → cards_of left ≡ card ∷ cards_of ws
cards_more w ws left card o more is some =
    let named : card_of_text w ≡ Some card = sym is ∙ some in
    let one : cards_of (w ∷ ws) ≡ card ∷ cards_of ws = rw named refl in
    ap cards_of more ∙ one

pub cards_passed : (w : List ℕ) (ws left : List (List ℕ)) (o : Option ℕ) → left ≡ w ∷ ws → o ≡ card_of_text w → o ≡ None → cards_of left ≡ cards_of ws
cards_passed w ws left o more is none =
    let named : card_of_text w ≡ None = sym is ∙ none in
    let same : cards_of (w ∷ ws) ≡ cards_of ws = rw named refl in
    ap cards_of more ∙ same
