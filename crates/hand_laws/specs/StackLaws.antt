-- What a seat has before it and in the pots.
use Rattle.std.specs.Prelude.{◌≡◌, ◌+◌, ℕ, List}
use Rattle.hand_events.specs.declared.events.Header.{Header}
use Rattle.hand_events.specs.declared.events.Event.{Event}
use Rattle.betting_replay.specs.Sums.{stack, paid, dead}
use Rattle.betting_replay.specs.Accepted.{IsAccepted, opening}

-- after accepted events a seat has before it, and in the pots, what its line gave, and nothing else
abbrev pub KeepsChips : Type 0
KeepsChips = (header : Header) (players : ℕ) (h : List Event) (p : ℕ) → IsAccepted header players h
    → stack header h p + paid header h p + dead header h p ≡ opening h p
