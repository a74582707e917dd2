-- What a walk over the words of a spot collects.
use Rattle.std.specs.Prelude.{ℕ, zero, suc, ◌≡◌, Bool, List, [], ◌∷◌, length, min, IsTrue, Option, Some, None}
use Rattle.std.specs.List.{list_all}
use Rattle.card_sets.specs.declared.games.Game.{Game}
use Rattle.spot_text.specs.declared.walk.Seen.{Seen}
use Rattle.spot_text.specs.declared.walk.Table.{Table}
use Rattle.spot_text.specs.declared.walk.Collected.{Collected}
use Rattle.spot_text.specs.declared.walk.ReadHands.{ReadHands}
use Rattle.spot_text.specs.Games.{hand_fits}
use Rattle.spot_text.specs.Parts.{hand_words, board_words, dead_words, in_form, cards_of, set_of}
use Rattle.spot_text.specs.Spot.{repeated_after}

-- the card that was seen twice, or else one that is seen twice from there on
abbrev pub twice_or : Option ℕ → Option ℕ → Option ℕ
twice_or (Some card) later = Some card
twice_or None later = later

-- of all cards some are left, and those before them are seen
pub record IsSeen (seen : Seen) (left all : List ℕ) : Type 0 where
  pub front : List ℕ
  pub is : seen.cards ≡ set_of front
  pub same : repeated_after [] all ≡ twice_or seen.twice (repeated_after front left)

-- words that begin after a hand have a board and dead cards
pub record HasTable (others : List (List ℕ)) (table : Table) : Type 0 where
  pub form : IsTrue (in_form others)
  pub hands : hand_words others ≡ [] ∷ []
  pub board : table.board ≡ set_of (cards_of (board_words others))
  pub dead : table.dead ≡ set_of (cards_of (dead_words others))

-- the sets of n hands, and empty sets where there are fewer
abbrev pub spread : ℕ → List (List (List ℕ)) → List (List ℕ)
spread zero hands = []
spread (suc n) [] = [] ∷ spread n []
spread (suc n) (hand ∷ hands) = set_of (cards_of hand) ∷ spread n hands

-- the game allows the number of different cards in each hand
abbrev pub sets_fit : Game → List (List (List ℕ)) → Bool
sets_fit game hands = list_all (λ hand. hand_fits game (length (set_of (cards_of hand)))) hands

-- hands that were read: their number up to eleven, the sets of the first ten, and whether all fit
pub record AreRead (game : Game) (hands : List (List (List ℕ))) (read : ReadHands) : Type 0 where
  pub count : read.count ≡ min 11 (length hands)
  pub sets : read.sets ≡ spread 10 hands
  pub fit : read.fit ≡ sets_fit game hands

-- the words are in form, and these are their parts and the first card that appears twice
pub record IsCollected (game : Game) (others : List (List ℕ)) (parts : Collected) : Type 0 where
  pub form : IsTrue (in_form others)
  pub hands : AreRead game (hand_words others) parts.hands
  pub board : parts.board ≡ set_of (cards_of (board_words others))
  pub dead : parts.dead ≡ set_of (cards_of (dead_words others))
  pub twice : parts.twice ≡ repeated_after [] (cards_of others)
