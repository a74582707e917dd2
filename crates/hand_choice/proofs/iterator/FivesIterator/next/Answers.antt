use Rattle.std.proofs.Common.{◌≡◌, ℕ, suc, ◌+◌, List, [], ◌∷◌, length, drop, ap, ◌∙◌, sym, arith, rules}
use Rattle.hand_choice.proofs.PushedChoices.{drop-next, drop-end}
use Rattle.hand_choice.proofs.iterator.FivesIterator.next.Goals as goal

pub returns-in_err-five-clause-steps : goal.returns-in_err-five-clause-steps
returns-in_err-five-clause-steps c =
    let view : c.args.self.now ≡ drop c.self.inside.given c.self.inside.list = cc in
    let none : c.args.self.now ≡ [] = view ∙ drop-end c.self.inside.list c.self.inside.given (sym c.get.ensures.value ∙ c.in_err-five.was) in
    search rules

pub overflow_add-self : goal.overflow_add-self
overflow_add-self c =
    let next = drop-next c.self.inside.list c.self.inside.given c.in_ok-five.five (sym c.get.ensures.value ∙ c.in_ok-five.was) in
    omega (arith, next.1, c.get.ensures.few)

next_is : (list : List (List ℕ)) (n : ℕ) (x : List ℕ) → drop n list ≡ x ∷ drop (suc n) list → drop n list ≡ x ∷ drop (n + 1) list
next_is list n x e = let up : n + 1 ≡ suc n = omega arith in e ∙ ap (λ k. x ∷ drop k list) (sym up)

pub returns-clause-steps : goal.returns-clause-steps
returns-clause-steps c =
    let view : c.args.self.now ≡ drop c.self.inside.given c.self.inside.list = cc in
    let next = drop-next c.self.inside.list c.self.inside.given c.in_ok-five.five (sym c.get.ensures.value ∙ c.in_ok-five.was) in
    view ∙ next_is c.self.inside.list c.self.inside.given c.in_ok-five.five next.0

pub returns-clause-goes : goal.returns-clause-goes
returns-clause-goes c =
    let view : c.args.self.now ≡ drop c.self.inside.given c.self.inside.list = cc in
    let next = drop-next c.self.inside.list c.self.inside.given c.in_ok-five.five (sym c.get.ensures.value ∙ c.in_ok-five.was) in
    let step : drop c.self.inside.given c.self.inside.list ≡ c.in_ok-five.five ∷ drop (c.self.inside.given + 1) c.self.inside.list = next_is c.self.inside.list c.self.inside.given c.in_ok-five.five next.0 in
    let shorter : length c.args.self.now ≡ length (drop (c.self.inside.given + 1) c.self.inside.list) + 1 = omega (arith, ap length step, ap length view) in
    search rules
