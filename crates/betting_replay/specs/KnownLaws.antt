-- A law: the known cards of a player on a street of a stud game are all that they were dealt up to it.
use Rattle.std.specs.Prelude.{◌≡◌, ℕ, List, length, Some}
use Rattle.card_sets.specs.Games.{family_of}
use Rattle.card_sets.specs.declared.games.Family.TheVariants as family
use Rattle.hand_events.specs.declared.events.Header.{Header}
use Rattle.hand_events.specs.declared.events.Event.{Event}
use Rattle.card_sets.specs.declared.streets.Street.{Street as StreetName}
use Rattle.card_sets.specs.declared.streets.Street.TheVariants.{First, Fourth, Fifth, Sixth}
use Rattle.betting_replay.specs.Known.{cards_at}

-- the number of cards dealt to a player of a stud game up to a street
abbrev pub dealt_by_street : StreetName → ℕ
dealt_by_street First = 3
dealt_by_street Fourth = 4
dealt_by_street Fifth = 5
dealt_by_street Sixth = 6
dealt_by_street _ = 7

-- the known cards on a street are that many
abbrev pub KnowsAllDealt : Type 0
KnowsAllDealt = (header : Header) (h : List Event) (p : ℕ) (street : StreetName) (cards : List ℕ)
    → family_of header.game ≡ family.Stud → cards_at header h p street ≡ Some cards
    → length cards ≡ dealt_by_street street
