-- The lines before the first that departs.
use Rattle.std.specs.Prelude.{◌≡◌, ℕ, zero, suc, List, [], ◌∷◌, Result, Ok, Err, None}
use Rattle.hand_events.specs.declared.events.Header.{Header}
use Rattle.hand_events.specs.declared.events.Event.{Event}
use Rattle.hand_events.specs.declared.events.TextFault.{TextFault}
use Rattle.hand_audit.specs.Lines.{SoFar, read_at, with_event}
use Rattle.hand_audit.specs.Departs.{event_cause}

-- what a line says can be read and may stand, and the rest holds of the event
abbrev pub StandsBy : Header → ℕ → List Event → Result Event TextFault → (Event → Type 0) → Type 0
StandsBy g players h (Err fault) rest = ⊥
StandsBy g players h (Ok e) rest = (event_cause g players h e ≡ None) × rest e

-- the first n lines can be read, and the event of each may stand after those of the lines before
abbrev pub Stand : Header → ℕ → SoFar → List (List ℕ) → ℕ → Type 0
Stand g players so_far lines zero = Unit {0}
Stand g players so_far [] (suc n) = ⊥
Stand g players so_far (line ∷ lines) (suc n) = StandsBy g players so_far.events (read_at g so_far line) (λ e. Stand g players (with_event line e so_far) lines n)
