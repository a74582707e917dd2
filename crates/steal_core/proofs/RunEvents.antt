-- A run, one event more at a time.
use Rattle.std.proofs.Common.{◌≡◌, ◌+◌, ◌<◌, ℕ, true, false, cond, List, ◌∷◌, length, get_or, drop, refl, sym, ap, ◌∙◌, arith}
use Rattle.std.proofs.lemmas.List.{drop_more}
use Rattle.steal_core.specs.declared.events.CoreEvent.{CoreEvent}
use Rattle.steal_core.specs.declared.state.State.{State}
use Rattle.steal_core.specs.Machine.{is_refused, after, run, refusals, answer, one_if}

pub run_more : (state next start : State) (events : List CoreEvent) (i : ℕ) (event : CoreEvent) → i < length events → event ≡ get_or events i event → run state (drop i events) ≡ run start events → next ≡ after state event
    → run next (drop (i + 1) events) ≡ run start events
run_more state next start events i event low here ih is =
    rw is (sym (ap (run state) (drop_more events i event low ∙ ap (λ e. e ∷ drop (i + 1) events) (sym here))) ∙ ih)

pub refusals_more : (state next start : State) (events : List CoreEvent) (i before added : ℕ) (event : CoreEvent) → i < length events → event ≡ get_or events i event
    → before + refusals state (drop i events) ≡ refusals start events → next ≡ after state event → added ≡ one_if (answer (is_refused state event))
    → before + added + refusals next (drop (i + 1) events) ≡ refusals start events
refusals_more state next start events i before added event low here ih is one =
    let d : refusals state (drop i events) ≡ cond {A = ℕ} (is_refused state event) 1 0 + refusals (after state event) (drop (i + 1) events) = ap (refusals state) (drop_more events i event low ∙ ap (λ e. e ∷ drop (i + 1) events) (sym here)) in
    let n : refusals next (drop (i + 1) events) ≡ refusals (after state event) (drop (i + 1) events) = ap (λ s. refusals s (drop (i + 1) events)) is in
    let o : one_if (answer (is_refused state event)) ≡ cond {A = ℕ} (is_refused state event) 1 0 = elim (is_refused state event) as (λ b. one_if (answer b) ≡ cond {A = ℕ} b 1 0) [ true ↦ refl | false ↦ refl ] in
    omega arith
