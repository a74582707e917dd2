-- After accepted events the cards of a second board are no seat's, and none is dead.
use Rattle.std.proofs.Common.{◌≡◌, ℕ, ◌<◌, List, sym, ap, ◌∙◌, true, false, ◌==◌, ◌||◌, ◌⊎◌, inl, inr, arith}
use Rattle.std.specs.Prelude.{Option, Some, None}
use mathlib.Core.Bool.{true≢false}
use Rattle.card_sets.specs.Cards.{has_card, union, IsCardSet}
use Rattle.card_sets.specs.Bits.{IsCardSet-cards_where}
use Rattle.card_sets.specs.Disjoint.{apart}
use Rattle.hand_events.specs.declared.events.Header.{Header}
use Rattle.hand_events.specs.declared.events.Event.{Event}
use Rattle.card_sets.specs.declared.streets.Street.{Street as StreetName}
use Rattle.betting_replay.specs.Accepted.{IsAccepted}
use Rattle.betting_replay.specs.Boards.{shared, second_own, second_by, second_board}
use Rattle.betting_replay.specs.CardLaws.{Among}
use Rattle.betting_replay.specs.Places.{owned}
use Rattle.betting_replay.specs.Sums.{second_street}
use Rattle.betting_replay.specs.TableAfter.{dead_cards}
use Rattle.card_sets.proofs.CallerLemmas.{in_union, apart-Apart}
use Rattle.betting_replay.proofs.lemmas.places.CardsBelong.{one_place, shared_among, second_among}
use Rattle.betting_replay.proofs.lemmas.places.DeadCards.{dead_not_board, dead_not_second}

pub record IsApart (g : Header) (players : ℕ) (h : List Event) (second : List ℕ) : Type 0 where
  pub set : IsCardSet second
  pub seat : (p : ℕ) → (p == 0) ≡ false → p < 11 → (cards : List ℕ) → Among cards (owned g.game h p) → apart cards second ≡ true
  pub living : (k : ℕ) → has_card (dead_cards g players h) k ≡ true → has_card second k ≡ true → ⊥

-- a card of the second board is the first's too, or of the second alone
of_second : (g : Header) (players : ℕ) (h : List Event) (k : ℕ) → IsAccepted g players h → has_card (union (shared h) (second_own h)) k ≡ true → (has_card (owned g.game h 0) k ≡ true) ⊎ (has_card (owned g.game h 11) k ≡ true)
of_second g players h k ok has = elim (in_union (shared h) (second_own h) k has).1 [
  | inl both ↦ inl ((shared_among g players h ok).each k both)
  | inr own ↦ inr ((second_among g players h ok).each k own)
]

whole : (o : Option StreetName) (both own second : List ℕ) → second_by o both own ≡ Some second → second ≡ union both own
whole None both own second is = cc
whole (Some s) both own second is = cc

pub second_apart : (g : Header) (players : ℕ) (h : List Event) → IsAccepted g players h → (second : List ℕ) → second_board h ≡ Some second → IsApart g players h second
second_apart g players h ok second is = record { set = rw same (IsCardSet-cards_where (λ k. has_card (shared h) k || has_card (second_own h) k)); seat = seat; living = none_dead }
  where
    same : second ≡ union (shared h) (second_own h)
    same = whole (second_street h) (shared h) (second_own h) second is

    there : (k : ℕ) → has_card second k ≡ true → (has_card (owned g.game h 0) k ≡ true) ⊎ (has_card (owned g.game h 11) k ≡ true)
    there k has = of_second g players h k ok (ap (λ cards. has_card cards k) (sym same) ∙ has)

    seat : (p : ℕ) → (p == 0) ≡ false → p < 11 → (cards : List ℕ) → Among cards (owned g.game h p) → apart cards second ≡ true
    seat p other small cards mine = apart-Apart cards second (λ k x y. elim (there k y) [
      | inl first ↦ (let is : p ≡ 0 = one_place g.game h p 0 k (mine.each k x) first in let yes : (p == 0) ≡ true = grind arith in true≢false (sym yes ∙ other))
      | inr own ↦ (let is : p ≡ 11 = one_place g.game h p 11 k (mine.each k x) own in absurd (omega (arith, is, small)))
    ])

    none_dead : (k : ℕ) → has_card (dead_cards g players h) k ≡ true → has_card second k ≡ true → ⊥
    none_dead k gone has = elim (there k has) [
      | inl first ↦ dead_not_board g players h k ok gone first
      | inr own ↦ dead_not_second g players h k ok gone own
    ]
