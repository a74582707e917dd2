use Rattle.std.proofs.Common.{◌-◌, ◌+◌, ◌≡◌, ◌<◌, ◌≤◌, ℕ, rules, subst, sym, ◌∙◌, ⊎_elim, arith}
use Rattle.std.proofs.lemmas.Bool.{cases_eq, cases_lt}
use Rattle.worker_seats.specs.Joined.{HasAll, HasTold}
use Rattle.worker_seats.proofs.JoinedPasses.{still_joinable, still_all, shows_on}
use Rattle.worker_seats.proofs.ToldPasses.{still_told}
use Rattle.worker_seats.proofs.joins.join_all.Goals as goal

pub loop-deque-preserved : goal.loop-deque-preserved
loop-deque-preserved g c =
    let k = c.loop-deque.deque in
    let n = g.N.Naming.all - 1 in
    let here : k < n = search rules in
    let same = c.join_deque.ensures.same in (
      shows_on k c.args.seats.now c.loop-deque.seats c.join_deque.new.seats c.loop-deque.invariant.0 same,
      (λ d from low. still_joinable n c.args.blocks d k c.loop-deque.seats c.join_deque.new.seats low (λ e. absurd (omega arith)) same (c.loop-deque.invariant.1 d (omega arith) low)),
      (λ d low. ⊎_elim
          (λ (e : d ≡ k). still_all n c.args.blocks d k c.loop-deque.seats c.join_deque.new.seats same (subst (λ i. HasAll n c.args.blocks i c.loop-deque.seats) (sym e) c.join_deque.ensures.all))
          (λ (ne : d ≡ k → ⊥). still_all n c.args.blocks d k c.loop-deque.seats c.join_deque.new.seats same (c.loop-deque.invariant.2 d (before d k ne low)))
          (cases_eq d k)),
      (λ d low. ⊎_elim
          (λ (e : d ≡ k). subst (λ i. HasTold n c.args.blocks i c.join_deque.new.seats) (sym e) c.join_deque.ensures.told)
          (λ (ne : d ≡ k → ⊥). still_told n c.args.blocks d k c.loop-deque.seats c.join_deque.new.seats (let k_low = here in let b = before d k ne low in omega arith) ne (c.loop-deque.invariant.0.count ∙ c.requires.workers) c.loop-deque.invariant.4 same (c.loop-deque.invariant.3 d (before d k ne low)))
          (cases_eq d k)),
      λ w x low. (same.beside w x (let n = c.loop-deque.invariant.0.count in let r = c.requires.workers in omega arith)).count ∙ c.loop-deque.invariant.4 w x low,
    )
  where
    before : (d k : ℕ) → (d ≡ k → ⊥) → d < k + 1 → d < k
    before d k ne low = ⊎_elim (λ (l : d < k). l) (λ (h : k ≤ d). absurd (ne (omega arith))) (cases_lt d k)
