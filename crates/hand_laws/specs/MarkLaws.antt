-- The marks of players in the stud games are cards of theirs.
use Rattle.std.specs.Prelude.{◌≡◌, ◌≤◌, ◌<◌, ℕ, true, List, length, Some, is_some, slice_get, Contains}
use Rattle.card_sets.specs.PlayerSets.{has_player, seats_in}
use Rattle.card_sets.specs.Cards.{has_card}
use Rattle.card_sets.specs.Games.{allowed}
use Rattle.card_sets.specs.declared.games.Game.{Game}
use Rattle.card_sets.specs.declared.games.Game.TheVariants.{Stud, Stud8, Razz}
use Rattle.card_sets.specs.declared.games.Side.{Side}
use Rattle.card_sets.specs.declared.games.Side.TheVariants.{High, Low}
use Rattle.pot_layers.specs.declared.paid.Pot.{Pot}
use Rattle.pot_layers.specs.Pots.{pots}
use Rattle.hand_audit.specs.Marks.{best_fives, height}
use Rattle.hand_audit.specs.Settle.{Showing, IsBoardOf, hand_of, mark_at, first_winners}

-- a mark is how high one of the own cards counts that is in a five of best value, and no card of any such five counts higher
pub record IsMarkOf (side : Side) (fives : List (List ℕ)) (own : List ℕ) (mark : ℕ) : Type 0 where
  pub five : List ℕ
  pub card : ℕ
  pub best : Contains (best_fives side fives) five
  pub in_five : has_card five card ≡ true
  pub in_own : has_card own card ≡ true
  pub counts : height side card ≡ mark
  pub above : (other : List ℕ) → Contains (best_fives side fives) other
      → (k : ℕ) → has_card other k ≡ true → height side k ≤ mark

-- in a game, in each pot of two players or more, so is the mark of each player whose final cards are known, on each board that pots
-- go by
abbrev pub MarksIn : Game → Side → Showing → Type 0
MarksIn game side s = s.game ≡ game → (number : ℕ) (pot : Pot) → slice_get (pots s.paid) number ≡ Some pot
    → 2 ≤ length (seats_in pot.eligible) → (board : List ℕ) → IsBoardOf s board
    → (p : ℕ) → p < 11 → (own : List ℕ) → hand_of s p ≡ Some own
    → IsMarkOf side (allowed game own board) own (mark_at (Some side) s board p)

-- in stud, which is played for the high, in stud for both sides, each of which has marks of its own, and in razz; on the low side the
-- ace is the lowest; and the final cards of whoever wins are known
pub record MarksAreCards (s : Showing) : Type 0 where
  pub stud : MarksIn Stud High s
  pub stud8_high : MarksIn Stud8 High s
  pub stud8_low : MarksIn Stud8 Low s
  pub razz : MarksIn Razz Low s
  pub winners : (board : List ℕ) (eligible p : ℕ) → p < 11 → has_player (first_winners s board eligible) p ≡ true → is_some (hand_of s p) ≡ true
