-- However blocks are weighed, no event makes or loses weight but a push, which adds that of its own block.
use Rattle.std.proofs.Common.{◌≡◌, ◌+◌, ◌<◌, ◌≤◌, ℕ, zero, suc, true, false, not, ◌||◌, cond, eqb, ltb, List, [], ◌∷◌, ◌++◌, length, length-set, take, drop, Option, Some, None, sym, refl, ap, ◌∙◌, ⊎_elim, arith}
use Rattle.std.specs.List.{sum_by, flat_map}
use Rattle.std.specs.Option.{option_to_list, is_some}
use Rattle.std.specs.Prelude.{slice_get}
use Rattle.std.proofs.lemmas.Bool.{cases_Bool, or_parts, and_parts, ltb-true, true≢false}
use Rattle.std.proofs.lemmas.List.Sums.{sum_by-append, sum_by-cons, sum_by-set}
use Rattle.steal_core.specs.declared.events.CoreEvent.{CoreEvent}
use Rattle.steal_core.specs.declared.events.CoreEvent.TheVariants.{Push, Pop, Steal, Book}
use Rattle.steal_core.specs.declared.state.State.{State}
use Rattle.steal_core.specs.Machine.{in_range, queue_of, hand_of, may_not_take, is_refused, taken, moved, after, run}
use Rattle.steal_core.specs.Interleavings.{every_block, pushed_by}
use Rattle.job_blocks.proofs.CallerLemmas.{sum_flat}

-- the weight of all blocks of a state
weight : (h : ℕ → ℕ) (state : State) → sum_by h (every_block state) ≡ sum_by (λ q. sum_by h q) state.queues + (sum_by (λ o. sum_by h (option_to_list o)) state.held + sum_by h state.booked)
weight h state = omega (
  arith,
  sum_by-append h (flat_map (λ q. q) state.queues ++ flat_map option_to_list state.held) state.booked,
  sum_by-append h (flat_map (λ q. q) state.queues) (flat_map option_to_list state.held),
  sum_flat h (λ (q : List ℕ). q) state.queues,
  sum_flat h option_to_list state.held,
)

-- the front of a queue and the rest weigh what the queue does
front : (h : ℕ → ℕ) (q : List ℕ) → eqb (length q) 0 ≡ false → sum_by h (drop 1 q) + sum_by h (option_to_list (slice_get q 0)) ≡ sum_by h q
front h [] some = absurd (true≢false some)
front h (x ∷ q) some = omega (arith, sum_by-cons h x q, sum_by-cons h x [])

no_hand : (h : ℕ → ℕ) (o : Option ℕ) → is_some o ≡ false → sum_by h (option_to_list o) ≡ 0
no_hand h None none = refl
no_hand h (Some x) none = absurd (true≢false none)

record InRange (state : State) (worker : ℕ) : Type 0 where
  pub queue : worker < length state.queues
  pub hand : worker < length state.held

in_both : (state : State) (worker : ℕ) → not (in_range state worker) ≡ false → InRange state worker
in_both state worker is =
    let yes : in_range state worker ≡ true = ⊎_elim (λ t. t) (λ f. absurd (true≢false (sym (ap not f) ∙ is))) (cases_Bool (in_range state worker)) in
    let parts = and_parts (ltb worker (length state.queues)) (ltb worker (length state.held)) yes in
    record { queue = ltb-true worker (length state.queues) parts.0; hand = ltb-true worker (length state.held) parts.1 }

taken_weight : (h : ℕ → ℕ) (state : State) (worker victim : ℕ) → may_not_take state worker victim ≡ false → sum_by h (every_block (taken state worker victim)) ≡ sum_by h (every_block state)
taken_weight h state worker victim may =
    let a = or_parts (not (in_range state worker) || not (in_range state victim) || is_some (hand_of state worker)) (eqb (length (queue_of state victim)) 0) may in
    let b = or_parts (not (in_range state worker) || not (in_range state victim)) (is_some (hand_of state worker)) a.0 in
    let c = or_parts (not (in_range state worker)) (not (in_range state victim)) b.0 in
    let mine = in_both state worker c.0 in
    let theirs = in_both state victim c.1 in
    let x = slice_get (queue_of state victim) 0 in
    let queues = sum_by-set (λ q. sum_by h q) state.queues victim (drop 1 (queue_of state victim)) [] theirs.queue in
    let hands = sum_by-set (λ o. sum_by h (option_to_list o)) state.held worker x None mine.hand in
    let f = front h (queue_of state victim) a.1 in
    let n = no_hand h (hand_of state worker) b.1 in
    omega (arith, weight h state, weight h (taken state worker victim))

-- an event keeps all blocks, and a push to a worker in range adds its own
step_weight : (h : ℕ → ℕ) (state : State) (event : CoreEvent) → sum_by h (every_block (after state event)) ≡ sum_by h (every_block state) + sum_by h (pushed_by state (event ∷ []))
step_weight h state (Push worker block) = ⊎_elim
    (λ (is : in_range state worker ≡ true).
    let range = in_both state worker (ap not is) in
    let set_one = sum_by-set (λ q. sum_by h q) state.queues worker (queue_of state worker ++ block ∷ []) [] range.queue in
    let more = sum_by-append h (queue_of state worker) (block ∷ []) in
    rw is (omega (arith, weight h state, weight h (moved state (Push worker block)))))
    (λ (is : in_range state worker ≡ false). rw is (omega arith))
    (cases_Bool (in_range state worker))
step_weight h state (Pop worker) = ⊎_elim
    (λ (is : may_not_take state worker worker ≡ true). rw is (omega arith))
    (λ (is : may_not_take state worker worker ≡ false). rw is (omega (arith, taken_weight h state worker worker is)))
    (cases_Bool (may_not_take state worker worker))
step_weight h state (Steal worker victim) = ⊎_elim
    (λ (is : (may_not_take state worker victim || eqb worker victim) ≡ true). rw is (omega arith))
    (λ (is : (may_not_take state worker victim || eqb worker victim) ≡ false). rw is (omega (arith, taken_weight h state worker victim (or_parts (may_not_take state worker victim) (eqb worker victim) is).0)))
    (cases_Bool (may_not_take state worker victim || eqb worker victim))
step_weight h state (Book worker) = ⊎_elim
    (λ (is : is_refused state (Book worker) ≡ true). rw is (omega arith))
    (λ (is : is_refused state (Book worker) ≡ false).
    let range = in_both state worker (or_parts (not (in_range state worker)) (not (is_some (hand_of state worker))) is).0 in
    let hands = sum_by-set (λ o. sum_by h (option_to_list o)) state.held worker None None range.hand in
    let more = sum_by-append h state.booked (option_to_list (hand_of state worker)) in
    rw is (omega (arith, weight h state, weight h (moved state (Book worker)))))
    (cases_Bool (is_refused state (Book worker)))

-- no event changes how many queues and hands there are
record SameSize (a b : State) : Type 0 where
  pub queues : length a.queues ≡ length b.queues
  pub held : length a.held ≡ length b.held

moved_size : (state : State) (event : CoreEvent) → SameSize (moved state event) state
moved_size state (Push worker block) = record { queues = length-set state.queues worker (queue_of state worker ++ block ∷ []); held = refl }
moved_size state (Pop worker) = record { queues = length-set state.queues worker (drop 1 (queue_of state worker)); held = length-set state.held worker (slice_get (queue_of state worker) 0) }
moved_size state (Steal worker victim) = record { queues = length-set state.queues victim (drop 1 (queue_of state victim)); held = length-set state.held worker (slice_get (queue_of state victim) 0) }
moved_size state (Book worker) = record { queues = refl; held = length-set state.held worker None }

after_size : (state : State) (event : CoreEvent) → SameSize (after state event) state
after_size state event = elim (is_refused state event) as (λ b. SameSize (cond b state (moved state event)) state) [ true ↦ record { queues = refl; held = refl } | false ↦ moved_size state event ]

in_range_same : (a b : State) (worker : ℕ) → SameSize a b → in_range a worker ≡ in_range b worker
in_range_same a b worker same = rw (same.queues, same.held) refl

pushed_same : (a b : State) (events : List CoreEvent) → SameSize a b → pushed_by a events ≡ pushed_by b events
pushed_same a b [] same = refl
pushed_same a b (Push worker block ∷ events) same = rw (in_range_same a b worker same, pushed_same a b events same) refl
pushed_same a b (Pop worker ∷ events) same = pushed_same a b events same
pushed_same a b (Steal worker victim ∷ events) same = pushed_same a b events same
pushed_same a b (Book worker ∷ events) same = pushed_same a b events same

pushed_more : (h : ℕ → ℕ) (state : State) (event : CoreEvent) (events : List CoreEvent) → sum_by h (pushed_by state (event ∷ events)) ≡ sum_by h (pushed_by state (event ∷ [])) + sum_by h (pushed_by state events)
pushed_more h state (Push worker block) events = let p = cond (in_range state worker) (block ∷ []) [] in omega (arith, sum_by-append h p (pushed_by state events), sum_by-append h p [])
pushed_more h state (Pop worker) events = omega arith
pushed_more h state (Steal worker victim) events = omega arith
pushed_more h state (Book worker) events = omega arith

pub run_weight : (h : ℕ → ℕ) (state : State) (events : List CoreEvent) → sum_by h (every_block (run state events)) ≡ sum_by h (every_block state) + sum_by h (pushed_by state events)
run_weight h state [] = omega arith
run_weight h state (event ∷ events) =
    let ih = run_weight h (after state event) events in
    let s = step_weight h state event in
    let p = ap (sum_by h) (pushed_same (after state event) state events (after_size state event)) in
    omega (arith, pushed_more h state event events)

-- a front of the events pushes no more
pub pushed_front : (h : ℕ → ℕ) (state : State) (events : List CoreEvent) (n : ℕ) → sum_by h (pushed_by state (take n events)) ≤ sum_by h (pushed_by state events)
pushed_front h state [] zero = omega arith
pushed_front h state [] (suc n) = omega arith
pushed_front h state (event ∷ events) zero = omega arith
pushed_front h state (event ∷ events) (suc n) = let ih = pushed_front h state events n in omega (arith, pushed_more h state event events, pushed_more h state event (take n events))
