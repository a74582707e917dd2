-- What is known of the board, the dead cards and the ranges that a line says.
use Rattle.std.specs.Prelude.{◌≡◌, ℕ, Bool, true, ◌+◌, ◌*◌, ◌-◌, ◌<◌, ◌≤◌, ◌&&◌, nat_lt, List, [], ◌∷◌, length, slice_index}
use Rattle.std.specs.List.{list_all}
use Rattle.card_sets.specs.Cards.{IsCardSet}
use Rattle.card_sets.specs.Disjoint.{apart}
use Rattle.card_sets.specs.declared.games.Game.TheVariants.{Holdem}
use Rattle.spot_text.specs.Games.{board_fits}
use Rattle.range_lines.specs.declared.spot.Weighted.{Weighted}
use Rattle.range_lines.specs.RangeSpot.{Ranges}

-- a hand of a range: two cards, on neither the board nor among the dead cards, with a weight from 1 to 100
pub record IsHand (board dead : List ℕ) (w : Weighted) : Type 0 where
  pub set : IsCardSet w.hand
  pub two : length w.hand ≡ 2
  pub off_board : apart w.hand board ≡ true
  pub off_dead : apart w.hand dead ≡ true
  pub some : 0 < w.weight
  pub light : w.weight ≤ 100

abbrev pub AreHands : List ℕ → List ℕ → List Weighted → Type 0
AreHands board dead [] = Unit {0}
AreHands board dead (w ∷ hands) = IsHand board dead w × AreHands board dead hands

-- hands stand in the order of their lower cards, and those of one lower card in the order of their higher cards
abbrev pub place_of : List ℕ → ℕ
place_of hand = 52 * slice_index hand 0 + slice_index hand 1

-- each hand stands before those after it, so none stands twice
abbrev pub are_rising : List Weighted → Bool
are_rising [] = true
are_rising (w ∷ hands) =
    list_all (λ later. nat_lt (place_of w.hand) (place_of later.hand)) hands && are_rising hands

-- a range: hands in their order, no more than there are
pub record IsRangeBeside (board dead : List ℕ) (hands : List Weighted) : Type 0 where
  pub each : AreHands board dead hands
  pub rising : are_rising hands ≡ true
  pub few : length hands ≤ 1326

abbrev pub AreRanges : List ℕ → List ℕ → List (List Weighted) → Type 0
AreRanges board dead [] = Unit {0}
AreRanges board dead (hands ∷ ranges) = IsRangeBeside board dead hands × AreRanges board dead ranges

-- two ranges to four beside a board that a deal has and dead cards that it hasn't, and enough cards for the hands and for
-- the rest of the board
pub record IsSound (spot : Ranges) : Type 0 where
  pub board_set : IsCardSet spot.board
  pub dead_set : IsCardSet spot.dead
  pub off_dead : apart spot.board spot.dead ≡ true
  pub fits : board_fits Holdem (length spot.board) ≡ true
  pub two : 2 ≤ length spot.ranges
  pub four : length spot.ranges ≤ 4
  pub enough : length spot.board + length spot.dead + 2 * length spot.ranges
      + (5 - length spot.board) ≤ 52
  pub each : AreRanges spot.board spot.dead spot.ranges
