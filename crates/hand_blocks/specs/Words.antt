-- The words of the report.
use Rattle.std.specs.Prelude.{ℕ, List, [], ◌∷◌, Option, Some, None, codes}
use Rattle.card_sets.specs.CardText.{text_of_card}
use Rattle.card_sets.specs.Games.{family_of}
use Rattle.card_sets.specs.declared.games.Game.{Game}
use Rattle.card_sets.specs.declared.games.Family.{Family}
use Rattle.card_sets.specs.declared.games.Family.TheVariants as family
use Rattle.card_sets.specs.declared.streets.Street.{Street}
use Rattle.card_sets.specs.declared.streets.Street.TheVariants.{First, Flop, Turn, Fourth, Fifth, Sixth, River, Draw, FirstDraw, SecondDraw, ThirdDraw, ShowDown, Summary}
use Rattle.spot_text.specs.declared.faults.SpotFault.{SpotFault}
use Rattle.spot_text.specs.declared.faults.SpotFault.TheVariants.{TwiceCard}
use Rattle.spot_text.specs.FaultNames.{fault_name}

-- how the first street of a family is written
abbrev pub first_word : Family → List ℕ
first_word family.Board = codes "preflop"
first_word family.Stud = codes "3rd"
first_word family.Draw = codes "predraw"
first_word family.TripleDraw = codes "predraw"

-- how the street of an all-in is written; on the last street no card is to come, and nobody's cards are known on the first of three draws, so there
-- is none
abbrev pub street_word : Game → Street → Option (List ℕ)
street_word game First = Some (first_word (family_of game))
street_word game Flop = Some (codes "flop")
street_word game Turn = Some (codes "turn")
street_word game Fourth = Some (codes "4th")
street_word game Fifth = Some (codes "5th")
street_word game Sixth = Some (codes "6th")
street_word game River = None
street_word game Draw = None
street_word game FirstDraw = None
street_word game SecondDraw = Some (codes "2nd-draw")
street_word game ThirdDraw = None
street_word game ShowDown = None
street_word game Summary = None

-- how a street is written that is shown after an all-in; the first street of a game is never after one, and nobody's cards are
-- known before the second of three draws, so there is none
abbrev pub later_word : Street → Option (List ℕ)
later_word First = None
later_word Flop = Some (codes "flop")
later_word Turn = Some (codes "turn")
later_word Fourth = Some (codes "4th")
later_word Fifth = Some (codes "5th")
later_word Sixth = Some (codes "6th")
later_word River = Some (codes "river")
later_word Draw = Some (codes "draw")
later_word FirstDraw = None
later_word SecondDraw = None
later_word ThirdDraw = Some (codes "3rd-draw")
later_word ShowDown = None
later_word Summary = None

-- the name of a spot's fault, and then what it carries
unfoldable pub fault_words : SpotFault → List (List ℕ)
fault_words (TwiceCard card) = fault_name (TwiceCard card) ∷ text_of_card card ∷ []
fault_words fault = fault_name fault ∷ []
