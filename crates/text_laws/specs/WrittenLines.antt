-- Written lines, and that each is read as it was meant.
use Rattle.std.specs.Prelude.{◌≡◌, ℕ, ◌+◌, ◌≤◌, ◌<◌, ◌⊎◌, Bool, true, false, List, [], ◌∷◌, ◌++◌, length, codes, decimal, None, Ok}
use Rattle.card_sets.specs.declared.games.Game.{Game}
use Rattle.line_text.specs.Amounts.{greatest}
use Rattle.text_laws.specs.WrittenAmounts.{Writes}
use Rattle.hand_events.specs.declared.events.Header.{Header}
use Rattle.hand_events.specs.declared.events.Part.{Part}
use Rattle.hand_events.specs.declared.events.Part.TheVariants.{Preamble, Play, Summary}
use Rattle.hand_events.specs.declared.events.PostKind.{PostKind}
use Rattle.hand_events.specs.declared.events.PostKind.TheVariants.{Small, Big, Both, Ante, BringIn}
use Rattle.hand_events.specs.declared.events.PotName.{PotName}
use Rattle.hand_events.specs.declared.events.PotName.TheVariants.{Only, Main, Side, SideNumber}
use Rattle.hand_events.specs.declared.events.Act.{Act as Deed}
use Rattle.hand_events.specs.declared.events.Act.TheVariants.{Fold, Check, Call, Bet, Raise}
use Rattle.hand_events.specs.declared.events.Event.TheVariants as event
use Rattle.history_text.specs.Texts.{behind, last_place}
use Rattle.card_sets.specs.Games.{has_bring_in}
use Rattle.history_text.specs.Seats.{seat_digits, button_line}
use Rattle.history_text.specs.Lines.{line_event}

-- a seat with its name is one of these
abbrev pub IsOneOf : ℕ × List ℕ → List (ℕ × List ℕ) → Type 0
IsOneOf who [] = ⊥
IsOneOf who (first ∷ names) = (first ≡ who) ⊎ IsOneOf who names

-- the name is that of this seat, and no other seat's
pub record IsNamed (names : List (ℕ × List ℕ)) (seat : ℕ) (name : List ℕ) : Type 0 where
  pub seated : IsOneOf (seat, name) names
  pub alone : (other : ℕ) → IsOneOf (other, name) names → other ≡ seat

-- no longer name of the hand is at the beginning of the line with the mark after it
abbrev pub IsLongest : List (ℕ × List ℕ) → List ℕ → List ℕ → List ℕ → Type 0
IsLongest names mark name rest =
    (seat : ℕ) (other more : List ℕ) → IsOneOf (seat, other) names → name ++ (mark ++ rest) ≡ other ++ (mark ++ more) →
    length other ≤ length name

-- no name of the hand is at the beginning of the line with a colon and a space after it
abbrev pub IsNobodysLine : List (ℕ × List ℕ) → List ℕ → Type 0
IsNobodysLine names line =
    (seat : ℕ) (name more : List ℕ) → IsOneOf (seat, name) names → line ≡ name ++ (codes ": " ++ more) → ⊥

-- the line is in the play; or it is before the first street, and neither a seat line nor that of the button
abbrev pub StandsInPlay : Part → List ℕ → Type 0
StandsInPlay Preamble line = (seat_digits line ≡ None) × (button_line line ≡ None)
StandsInPlay Play line = Unit {0}
StandsInPlay Summary line = ⊥

-- an amount that isn't 0, and a text that writes it
pub record IsPaid (header : Header) (units : ℕ) (text : List ℕ) : Type 0 where
  pub some : 1 ≤ units
  pub fits : units ≤ greatest
  pub writes : Writes header.hundredths units text

-- the words after a last amount that takes all chips
abbrev pub all_in_text : Bool → List ℕ
all_in_text true = codes " and is all-in"
all_in_text false = []

-- the words of a post
abbrev pub post_words : PostKind → List ℕ
post_words Small = codes "posts small blind "
post_words Big = codes "posts big blind "
post_words Both = codes "posts small & big blinds "
post_words Ante = codes "posts the ante "
post_words BringIn = codes "brings in for "

-- only games with a bring-in have that post
abbrev pub IsPostOf : Game → PostKind → Type 0
IsPostOf game BringIn = has_bring_in game ≡ true
IsPostOf game Small = Unit {0}
IsPostOf game Big = Unit {0}
IsPostOf game Both = Unit {0}
IsPostOf game Ante = Unit {0}

-- the texts of a post
abbrev pub SaysPost : Header → PostKind → ℕ → Bool → List ℕ → Type 0
SaysPost header kind units all_in text =
    (amount : List ℕ) × IsPaid header units amount × (text ≡ post_words kind ++ (amount ++ all_in_text all_in))

-- the texts of an act
abbrev pub SaysAct : Header → Deed → Bool → List ℕ → Type 0
SaysAct header Fold all_in text = (all_in ≡ false) × (text ≡ codes "folds")
SaysAct header Check all_in text = (all_in ≡ false) × (text ≡ codes "checks")
SaysAct header (Call units) all_in text =
    (amount : List ℕ) × IsPaid header units amount × (text ≡ codes "calls " ++ (amount ++ all_in_text all_in))
SaysAct header (Bet units) all_in text =
    (amount : List ℕ) × IsPaid header units amount × (text ≡ codes "bets " ++ (amount ++ all_in_text all_in))
SaysAct header (Raise by to) all_in text =
    (first second : List ℕ) × IsPaid header by first × IsPaid header to second
    × (text ≡ codes "raises " ++ (first ++ (codes " to " ++ (second ++ all_in_text all_in))))

-- the words of a pot; side pots are numbered 1 to 9
abbrev pub pot_text : PotName → List ℕ
pot_text Only = codes "pot"
pot_text Main = codes "main pot"
pot_text Side = codes "side pot"
pot_text (SideNumber number) = codes "side pot-" ++ (48 + number) ∷ []

abbrev pub IsPot : PotName → Type 0
IsPot Only = Unit {0}
IsPot Main = Unit {0}
IsPot Side = Unit {0}
IsPot (SideNumber number) = (1 ≤ number) × (number ≤ 9)

-- an act of a player, with the longest name at the beginning of the line
abbrev pub ActsAreRead : Type 0
ActsAreRead =
    (names : List (ℕ × List ℕ)) (header : Header) (part : Part) (seat : ℕ) (name text : List ℕ) (act : Deed) (all_in : Bool) →
    IsNamed names seat name → IsLongest names (codes ": ") name text → StandsInPlay part (name ++ (codes ": " ++ text)) →
    SaysAct header act all_in text →
    line_event names header part (name ++ (codes ": " ++ text)) ≡ Ok (event.Act seat act all_in [])

-- a post of a player
abbrev pub PostsAreRead : Type 0
PostsAreRead =
    (names : List (ℕ × List ℕ)) (header : Header) (part : Part) (seat : ℕ) (name text : List ℕ) (kind : PostKind) (units : ℕ) (all_in : Bool) →
    IsNamed names seat name → IsLongest names (codes ": ") name text → StandsInPlay part (name ++ (codes ": " ++ text)) →
    IsPostOf header.game kind → SaysPost header kind units all_in text →
    line_event names header part (name ++ (codes ": " ++ text)) ≡ Ok (event.Post seat kind units all_in)

-- the return of a bet
abbrev pub return_text : List ℕ → List ℕ → List ℕ
return_text amount name = codes "Uncalled bet (" ++ (amount ++ (codes ") returned to " ++ name))

abbrev pub ReturnsAreRead : Type 0
ReturnsAreRead =
    (names : List (ℕ × List ℕ)) (header : Header) (part : Part) (seat : ℕ) (name amount : List ℕ) (units : ℕ) →
    IsNamed names seat name → IsPaid header units amount → IsNobodysLine names (return_text amount name) →
    StandsInPlay part (return_text amount name) →
    line_event names header part (return_text amount name) ≡ Ok (event.Uncalled seat units)

-- a collection, if the line is of no other kind: no actor's line, no deal, and no return
abbrev pub won_text : List ℕ → PotName → List ℕ
won_text amount pot = amount ++ (codes " from " ++ pot_text pot)

abbrev pub collection_text : List ℕ → List ℕ → PotName → List ℕ
collection_text name amount pot = name ++ (codes " collected " ++ won_text amount pot)

abbrev pub CollectionsAreRead : Type 0
CollectionsAreRead =
    (names : List (ℕ × List ℕ)) (header : Header) (part : Part) (seat : ℕ) (name amount : List ℕ) (units : ℕ) (pot : PotName) →
    IsNamed names seat name → IsLongest names (codes " collected ") name (won_text amount pot) → IsPot pot → IsPaid header units amount →
    IsNobodysLine names (collection_text name amount pot) → behind (codes "Dealt to ") (collection_text name amount pot) ≡ None →
    behind (codes "Uncalled bet (") (collection_text name amount pot) ≡ None → StandsInPlay part (collection_text name amount pot) →
    line_event names header part (collection_text name amount pot) ≡ Ok (event.Collect seat units pot)

-- a seat with its player's name and chips; the text after the chips doesn't contain ` in chips`
abbrev pub seat_text : ℕ → List ℕ → List ℕ → List ℕ → List ℕ
seat_text seat name amount rest =
    codes "Seat " ++ (decimal seat ++ (codes ": " ++ (name ++ (codes " (" ++ (amount ++ (codes " in chips" ++ rest))))))

-- the name may be seated: it has bytes, and is no other seat's
pub record MayBeSeated (names : List (ℕ × List ℕ)) (seat : ℕ) (name : List ℕ) : Type 0 where
  pub at_table : (1 ≤ seat) × (seat ≤ 10)
  pub some : 0 < length name
  pub free : (other : ℕ) → IsOneOf (other, name) names → other ≡ seat

abbrev pub SeatsAreRead : Type 0
SeatsAreRead =
    (names : List (ℕ × List ℕ)) (header : Header) (seat : ℕ) (name amount rest : List ℕ) (units : ℕ) →
    MayBeSeated names seat name → units ≤ greatest → Writes header.hundredths units amount → last_place (codes " in chips") rest ≡ None →
    line_event names header Preamble (seat_text seat name amount rest)
    ≡ Ok (event.Seat seat units (7 + length (decimal seat)) (7 + length (decimal seat) + length name))
