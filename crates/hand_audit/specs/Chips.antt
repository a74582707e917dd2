-- What was put in and what was collected.
use Rattle.std.specs.Prelude.{◌≡◌, ℕ, ◌+◌, List}
use Rattle.hand_events.specs.declared.events.Header.{Header}
use Rattle.hand_events.specs.declared.events.Event.{Event}
use Rattle.hand_audit.specs.Departs.{put_in_by, collected}
use Rattle.hand_audit.specs.Showings.{rake}

-- all that the players put in is what was collected and the stated rake
pub record IsBalanced (g : Header) (players : ℕ) (h : List Event) : Type 0 where
  pub whole : put_in_by g players h ≡ collected h + rake h
