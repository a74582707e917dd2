-- The effect of a hand's events on each seat. The latest event comes first.
use Rattle.std.specs.Prelude.{ℕ, ◌+◌, ◌-◌, ◌==◌, ◌&&◌, ◌||◌, Bool, false, if◌then◌else◌, List, [], ◌∷◌, Option, Some, None, is_some}
use Rattle.card_sets.specs.declared.games.Game.{Game}
use Rattle.hand_events.specs.declared.events.Header.{Header}
use Rattle.hand_events.specs.declared.events.BoardNumber.{BoardNumber}
use Rattle.hand_events.specs.declared.events.BoardNumber.TheVariants as board
use Rattle.hand_events.specs.declared.events.Event.{Event}
use Rattle.card_sets.specs.declared.streets.Street.{Street as StreetName}
use Rattle.betting_replay.specs.declared.points.Showdowns.{Showdowns}
use Rattle.betting_replay.specs.Events.{seat_of, button_after, bought, returned, live_in, dead_in, ante_in, put_in, posts_small, brings_in, folds, is_act, is_seat_line}
use Rattle.betting_replay.specs.Seats.{or_else}
use Rattle.card_sets.specs.Streets.{is_last}
use Rattle.betting_replay.specs.Streets.{begins, begins_later, is_first, begins_on, shows_on, marker_after}

-- the street: that of the last marker, or the draw that a discard or a stand-pat began
abbrev pub street : Header → List Event → Option StreetName
street header [] = None
street header (e ∷ h) = or_else (begins header.game (street header h) e) (street header h)

-- a street after the first begins with the event
abbrev pub is_later_by : Header → List Event → Event → Bool
is_later_by header h e = begins_later header.game (street header h) e

-- the last street has begun
abbrev pub is_last_of : Game → Option StreetName → Bool
is_last_of game None = false
is_last_of game (Some marker) = is_last game marker

abbrev pub last_begun : Header → List Event → Bool
last_begun header [] = false
last_begun header (e ∷ h) = is_last_of header.game (begins header.game (street header h) e) || last_begun header h

-- the street from which on there are two boards: that of the first marker of a first board; none if the hand isn't run
-- twice
abbrev pub twice_from : List Event → Option StreetName
twice_from [] = None
twice_from (e ∷ h) = or_else (twice_from h) (begins_on board.First e)

abbrev pub runs_twice : List Event → Bool
runs_twice h = is_some (twice_from h)

-- the street of the second board: that of its last marker
abbrev pub second_street : List Event → Option StreetName
second_street [] = None
second_street (e ∷ h) = or_else (begins_on board.Second e) (second_street h)

-- the last street has begun on the second board
abbrev pub second_begun : Header → List Event → Bool
second_begun header h = is_last_of header.game (second_street h)

-- the board of the last marker
abbrev pub marker_board : List Event → BoardNumber
marker_board [] = board.Only
marker_board (e ∷ h) = marker_after e (marker_board h)

-- there was a showdown marker of a board, and of which boards there was one
abbrev pub shown_on : BoardNumber → List Event → Bool
shown_on number [] = false
shown_on number (e ∷ h) = shows_on number e || shown_on number h

abbrev pub showdowns_of : List Event → Showdowns
showdowns_of h = record { plain = shown_on board.Only h; first = shown_on board.First h; second = shown_on board.Second h }

-- the first street has begun
abbrev pub opened : Header → List Event → Bool
opened header [] = false
opened header (e ∷ h) = is_first (begins header.game (street header h) e) || opened header h

-- a small blind was posted
abbrev pub small_posted : List Event → Bool
small_posted [] = false
small_posted (e ∷ h) = posts_small e || small_posted h

-- the hand has a seat line of the seat
abbrev pub seated : List Event → ℕ → Bool
seated [] p = false
seated (e ∷ h) p = ((seat_of e == p) && is_seat_line e) || seated h p

-- the chips that p has put in live on the street
abbrev pub live : Header → List Event → ℕ → ℕ
live header [] p = 0
live header (e ∷ h) p =
    if is_later_by header h e then 0
    else (if seat_of e == p then live header h p + live_in header.big (small_posted h) (live header h p) e - returned e else live header h p)

-- p's dead chips
abbrev pub dead : Header → List Event → ℕ → ℕ
dead header [] p = 0
dead header (e ∷ h) p = if seat_of e == p then dead header h p + dead_in header.big (small_posted h) e else dead header h p

-- p's antes and live chips of all streets, without returned chips
abbrev pub paid : Header → List Event → ℕ → ℕ
paid header [] p = 0
paid header (e ∷ h) p =
    if seat_of e == p
    then paid header h p + (ante_in e + live_in header.big (small_posted h) (live header h p) e) - returned e
    else paid header h p

-- the units of p's seat line, without all that p put in, with what was returned
abbrev pub stack : Header → List Event → ℕ → ℕ
stack header [] p = 0
stack header (e ∷ h) p =
    if seat_of e == p
    then stack header h p + (bought e + returned e) - put_in header.big (small_posted h) (live header h p) e
    else stack header h p

-- p has folded
abbrev pub folded : List Event → ℕ → Bool
folded [] p = false
folded (e ∷ h) p = ((seat_of e == p) && folds e) || folded h p

-- p has acted on the street
abbrev pub acted : Header → List Event → ℕ → Bool
acted header [] p = false
acted header (e ∷ h) p =
    if is_later_by header h e then false else ((seat_of e == p) && is_act e) || acted header h p

-- p has brought in on the street
abbrev pub brought_in : Header → List Event → ℕ → Bool
brought_in header [] p = false
brought_in header (e ∷ h) p =
    if is_later_by header h e then false else ((seat_of e == p) && brings_in e) || brought_in header h p

-- the last actor of the street
abbrev pub last_actor : Header → List Event → Option ℕ
last_actor header [] = None
last_actor header (e ∷ h) =
    if is_later_by header h e then None else (if is_act e then Some (seat_of e) else last_actor header h)

-- the seat of the button, or 0 if no line named it
abbrev pub button : List Event → ℕ
button [] = 0
button (e ∷ h) = button_after e (button h)
