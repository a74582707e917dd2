-- What the all-in point says of those who are in the hand.
use Rattle.std.specs.Prelude.{◌≡◌, ◌≤◌, ◌<◌, ◌^◌, ℕ, true, List, Some}
use Rattle.hand_events.specs.declared.events.Header.{Header}
use Rattle.hand_events.specs.declared.events.Event.{Event}
use Rattle.betting_replay.specs.declared.points.Point.{Point}
use Rattle.card_sets.specs.PlayerSets.{has_player}
use Rattle.betting_replay.specs.Seats.{count_seats}
use Rattle.betting_replay.specs.TableAfter.{table_of, point}
use Rattle.betting_replay.specs.Turns.{is_contender}

-- a point has two contenders or more, all of them players, and whoever is one later was one there
pub record HasContenders (header : Header) (players : ℕ) (h : List Event) (found : Point) : Type 0 where
  pub two : 2 ≤ count_seats (has_player found.contenders)
  pub small : found.contenders < 2 ^ 11
  pub seated : (p : ℕ) → has_player found.contenders p ≡ true → has_player players p ≡ true
  pub later : (p : ℕ) → p < 11 → is_contender (table_of header players h) p ≡ true
      → has_player found.contenders p ≡ true

abbrev pub PointsHaveContenders : Type 0
PointsHaveContenders = (header : Header) (players : ℕ) (h : List Event) (found : Point)
    → point header players h ≡ Some found → HasContenders header players h found
