-- What the players of an accepted hand got, put in and had: together they lose the rake.
use Rattle.std.specs.Prelude.{◌≡◌, ℕ, ◌+◌, ◌-◌, ◌<◌, ◌≤◌, List, length, sum_by}
use Rattle.card_sets.specs.PlayerSets.{seats_in}
use Rattle.hand_events.specs.declared.events.Header.{Header}
use Rattle.hand_events.specs.declared.events.Event.{Event}
use Rattle.hand_laws.specs.Chips.{closing, collected_at}
use Rattle.hand_verdict.specs.SeatSums.{chips_at, got_of}
use Rattle.hand_verdict.specs.declared.seat_chips.SeatChips.{SeatChips}
use Rattle.hand_verdict.specs.declared.settlement.Settlement.{Settlement}

-- of a hand with such a settlement, such players and such chips: what a seat got is what its lines say that it collected; no seat
-- put in more than it had; what it had and got, less what it put in, is what it has after the hand; what all players put in is
-- what they got and the stated rake, and where there is a pot, what the pots hold
pub record NetsAddUp (header : Header) (h : List Event) (settlement : Settlement) (players : ℕ) (chips : List SeatChips) : Type 0 where
  pub got : (p : ℕ) → 1 ≤ p → p ≤ 10 → got_of settlement p ≡ collected_at h p
  pub covered : (p : ℕ) → p ≤ 10 → (chips_at chips p).put ≤ (chips_at chips p).had
  pub left : (p : ℕ) → 1 ≤ p → p ≤ 10
      → (chips_at chips p).had - (chips_at chips p).put + got_of settlement p ≡ closing header h p
  pub whole : sum_by (λ p. (chips_at chips p).put) (seats_in players) ≡ sum_by (λ p. got_of settlement p) (seats_in players) + settlement.rake
  pub held : 0 < length settlement.pots → sum_by (λ pot. pot.gross) settlement.pots ≡ sum_by (λ p. (chips_at chips p).put) (seats_in players)
