-- The cards of every marker are cards of the deck, and their number is that of the marker's street.
use Rattle.std.specs.Prelude.{◌≡◌, ◌<◌, ℕ, true, List, length}
use Rattle.card_sets.specs.declared.games.Game.{Game}
use Rattle.card_sets.specs.declared.streets.Street.{Street as StreetName}
use Rattle.card_sets.specs.Cards.{has_card}
use Rattle.card_sets.specs.Streets.{board_count}
use Rattle.hand_events.specs.declared.events.Event.{Event}
use Rattle.hand_events.specs.declared.events.Event.TheVariants.{Street}

-- a marker has the number of cards that come with it
pub record HasCards (game : Game) (street : StreetName) (cards : List ℕ) : Type 0 where
  pub many : length cards ≡ board_count game street
  pub deck : (card : ℕ) → has_card cards card ≡ true → card < 52

abbrev pub MarkerFits : Game → Event → Type 0
MarkerFits game (Street street number cards) = HasCards game street cards
MarkerFits game _ = Unit {0}
