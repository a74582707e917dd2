-- The counting machine: workers with queues and hands, and the effect of each event. The definition is this
-- project's own.
use Rattle.std.specs.Prelude.{ℕ, ◌+◌, ◌==◌, ◌&&◌, ◌||◌, not, nat_lt, Bool, true, false, if◌then◌else◌, List, [], ◌∷◌, ◌++◌, length, drop, slice_index_or, slice_set, slice_get, Option, None, is_some, option_to_list}
use Rattle.steal_core.specs.declared.events.CoreEvent.{CoreEvent}
use Rattle.steal_core.specs.declared.events.CoreEvent.TheVariants.{Push, Pop, Steal, Book}
use Rattle.steal_core.specs.declared.events.Stepped.{Stepped}
use Rattle.steal_core.specs.declared.events.Stepped.TheVariants.{Done, Refused}
use Rattle.steal_core.specs.declared.state.State.{State}

-- there is a queue and a hand with that number
abbrev pub in_range : State → ℕ → Bool
in_range state worker = nat_lt worker (length state.queues) && nat_lt worker (length state.held)

-- the queue of a worker, the front first
abbrev pub queue_of : State → ℕ → List ℕ
queue_of state worker = slice_index_or state.queues worker []

-- the block in the hand of a worker
abbrev pub hand_of : State → ℕ → Option ℕ
hand_of state worker = slice_index_or state.held worker None

-- a worker may not take from a queue: one of them is out of range, the worker's hand isn't empty, or the queue is
-- empty
abbrev pub may_not_take : State → ℕ → ℕ → Bool
may_not_take state worker victim = not (in_range state worker) || not (in_range state victim) || is_some (hand_of state worker) || (length (queue_of state victim) == 0)

-- whether an event is refused
abbrev pub is_refused : State → CoreEvent → Bool
is_refused state (Push worker block) = not (in_range state worker)
is_refused state (Pop worker) = may_not_take state worker worker
is_refused state (Steal worker victim) = may_not_take state worker victim || (worker == victim)
is_refused state (Book worker) = not (in_range state worker) || not (is_some (hand_of state worker))

-- the first block of a queue moves into a worker's hand
abbrev pub taken : State → ℕ → ℕ → State
taken state worker victim = record { queues = slice_set state.queues victim (drop 1 (queue_of state victim)); held = slice_set state.held worker (slice_get (queue_of state victim) 0); booked = state.booked }

-- the effect of an event that isn't refused
abbrev pub moved : State → CoreEvent → State
moved state (Push worker block) = record { queues = slice_set state.queues worker (queue_of state worker ++ block ∷ []); held = state.held; booked = state.booked }
moved state (Pop worker) = taken state worker worker
moved state (Steal worker victim) = taken state worker victim
moved state (Book worker) = record { queues = state.queues; held = slice_set state.held worker None; booked = state.booked ++ option_to_list (hand_of state worker) }

-- the state after an event; a refused event changes nothing
abbrev pub after : State → CoreEvent → State
after state event = if is_refused state event then state else moved state event

-- the state after a list of events
abbrev pub run : State → List CoreEvent → State
run state [] = state
run state (event ∷ events) = run (after state event) events

-- the number of refused events
abbrev pub refusals : State → List CoreEvent → ℕ
refusals state [] = 0
refusals state (event ∷ events) = (if is_refused state event then 1 else 0) + refusals (after state event) events

-- what a step returns, by whether its event is refused
abbrev pub answer : Bool → Stepped
answer true = Refused
answer false = Done

-- 1 for a refusal, and 0 otherwise
abbrev pub one_if : Stepped → ℕ
one_if Refused = 1
one_if Done = 0
