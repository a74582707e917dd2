-- What the events make of cards is a set of cards.
use Rattle.std.proofs.Common.{ℕ, List, [], ◌∷◌, Bool, true, false, not, ◌||◌, ◌&&◌, ◌==◌}
use Rattle.std.specs.Prelude.{if◌then◌else◌}
use Rattle.card_sets.specs.Cards.{has_card, union, minus, IsCardSet}
use Rattle.card_sets.specs.Bits.{IsCardSet-cards_where}
use Rattle.card_sets.specs.declared.streets.Street.{Street as StreetName}
use Rattle.card_sets.proofs.CallerLemmas.{no_cards}
use Rattle.hand_events.specs.declared.events.Header.{Header}
use Rattle.hand_events.specs.declared.events.Event.{Event}
use Rattle.betting_replay.specs.Boards.{board_on, named_on, second_on, named_second}
use Rattle.betting_replay.specs.Dealing.{dealt_on, dealt_then, gathered, is_late, held_before, thrown_late}
use Rattle.betting_replay.specs.Events.{seat_of, cards_named}
use Rattle.betting_replay.specs.Hands.{dealt_by, dealt, held, held_after}
use Rattle.betting_replay.specs.Places.{thrown_by, thrown}
use Rattle.betting_replay.specs.Sums.{street}

-- a set that grows by unions is a set
set_by : (old by : List ℕ) (b : Bool) → IsCardSet old → IsCardSet (if b then union old by else old)
set_by old by true set = IsCardSet-cards_where (λ k. has_card old k || has_card by k)
set_by old by false set = set

pub dealt_set : (h : List Event) (p : ℕ) → IsCardSet (dealt h p)
dealt_set [] p = no_cards
dealt_set (e ∷ h) p = set_by (dealt h p) (dealt_by e) (seat_of e == p) (dealt_set h p)

pub then_set : (g : Header) (s : StreetName) (h : List Event) (p : ℕ) → IsCardSet (dealt_then g s h p)
then_set g s [] p = no_cards
then_set g s (e ∷ h) p = set_by (dealt_then g s h p) (dealt_on s (street g h) e) (seat_of e == p) (then_set g s h p)

pub gathered_set : (by : Event → List ℕ) (h : List Event) (p : ℕ) → IsCardSet (gathered by h p)
gathered_set by [] p = no_cards
gathered_set by (e ∷ h) p = set_by (gathered by h p) (by e) (seat_of e == p) (gathered_set by h p)

pub board_set : (s : StreetName) (h : List Event) → IsCardSet (board_on s h)
board_set s [] = no_cards
board_set s (e ∷ h) = set_by (board_on s h) (named_on s e) true (board_set s h)

pub second_set : (s : StreetName) (h : List Event) → IsCardSet (second_on s h)
second_set s [] = no_cards
second_set s (e ∷ h) = set_by (second_on s h) (named_second s e) true (second_set s h)

pub thrown_set : (h : List Event) → IsCardSet (thrown h)
thrown_set [] = no_cards
thrown_set (e ∷ h) = IsCardSet-cards_where (λ k. has_card (minus (thrown h) (cards_named e)) k || has_card (thrown_by e) k)

pub late_set : (g : Header) (h : List Event) (p : ℕ) → IsCardSet (thrown_late g h p)
late_set g [] p = no_cards
late_set g (e ∷ h) p = set_by (thrown_late g h p) (thrown_by e) ((seat_of e == p) && is_late g h e) (late_set g h p)

-- and so is what a seat holds
after_set : (e : Event) (cards : List ℕ) → IsCardSet (held_after e cards)
after_set e cards = IsCardSet-cards_where (λ k. has_card (union cards (dealt_by e)) k && not (has_card (thrown_by e) k))

set_if : (b : Bool) (now before : List ℕ) → IsCardSet now → IsCardSet before → IsCardSet (if b then now else before)
set_if true now before x y = x
set_if false now before x y = y

pub held_set : (h : List Event) (p : ℕ) → IsCardSet (held h p)
held_set [] p = no_cards
held_set (e ∷ h) p = set_if (seat_of e == p) (held_after e (held h p)) (held h p) (after_set e (held h p)) (held_set h p)

pub before_set : (g : Header) (h : List Event) (p : ℕ) → IsCardSet (held_before g h p)
before_set g [] p = no_cards
before_set g (e ∷ h) p = set_if ((seat_of e == p) && not (is_late g h e)) (held_after e (held_before g h p)) (held_before g h p) (after_set e (held_before g h p)) (before_set g h p)
