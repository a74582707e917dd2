-- The cards that words begin with, and the mark after them.
use Rattle.std.specs.Prelude.{ℕ, Bool, true, false, if◌then◌else◌, List, [], ◌∷◌, is_some}
use Rattle.card_sets.specs.CardText.{card_of_text}
use Rattle.spot_text.specs.declared.walk.Mark.{Mark}
use Rattle.spot_text.specs.declared.walk.Mark.TheVariants.{Dash, Dashes, Slash, End, Other}
use Rattle.spot_text.specs.Parts.{is_slash, is_dashes, is_dash}

-- the first words, which name cards
unfoldable pub front_cards : List (List ℕ) → List (List ℕ)
front_cards [] = []
front_cards (word ∷ others) =
    if is_some (card_of_text word) then word ∷ front_cards others else []

-- the words from the first on that names none
unfoldable pub from_mark : List (List ℕ) → List (List ℕ)
from_mark [] = []
from_mark (word ∷ others) = if is_some (card_of_text word) then from_mark others else word ∷ others

-- the mark that words begin with
abbrev pub mark_of : List (List ℕ) → Mark
mark_of [] = End
mark_of (word ∷ others) =
    if is_slash word then Slash else (if is_dashes word then Dashes
    else (if is_dash word then Dash else Other))

-- whether no hand begins after a mark
abbrev pub ends_hands : Mark → Bool
ends_hands Dash = false
ends_hands Dashes = true
ends_hands Slash = true
ends_hands End = true
ends_hands Other = true
