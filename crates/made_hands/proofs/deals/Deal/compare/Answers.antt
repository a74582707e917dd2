use Rattle.std.proofs.Common.{◌≡◌, ◌≤◌, length, ap, ◌∙◌, arith}
use Rattle.std.specs.Ordering.{nat_cmp}
use Rattle.card_sets.specs.Cards.{union}
use Rattle.rank_high.specs.High.{best_high, value_of}
use Rattle.made_hands.specs.Lines.{compared}
use Rattle.made_hands.proofs.DifferentCards.{union-of}
use Rattle.made_hands.proofs.deals.Deal.compare.Goals as goal

pub high_of_set-first-requires-clause-least : goal.high_of_set-first-requires-clause-least
high_of_set-first-requires-clause-least c = omega (arith, ap length (union-of _ _ _ _ _ c.union.ensures c.set_of.ensures c.set_of-board.ensures))

pub high_of_set-first-requires-clause-most : goal.high_of_set-first-requires-clause-most
high_of_set-first-requires-clause-most c = omega (arith, ap length (union-of _ _ _ _ _ c.union.ensures c.set_of.ensures c.set_of-board.ensures))

pub high_of_set-second-requires-clause-least : goal.high_of_set-second-requires-clause-least
high_of_set-second-requires-clause-least c = omega (arith, ap length (union-of _ _ _ _ _ c.union-2.ensures c.set_of-2.ensures c.set_of-board.ensures))

pub high_of_set-second-requires-clause-most : goal.high_of_set-second-requires-clause-most
high_of_set-second-requires-clause-most c = omega (arith, ap length (union-of _ _ _ _ _ c.union-2.ensures c.set_of-2.ensures c.set_of-board.ensures))

pub returns : goal.returns
unfolding compared
returns c =
    let deal = c.args.self.now in
    let first = union deal.first deal.board in
    let second = union deal.second deal.board in
    let one : c.high_of_set-first.result ≡ value_of (best_high first) =
    c.high_of_set-first.ensures ∙ ap (λ s. value_of (best_high s)) (union-of _ _ _ _ _ c.union.ensures c.set_of.ensures c.set_of-board.ensures) in
    let other : c.high_of_set-second.result ≡ value_of (best_high second) =
    c.high_of_set-second.ensures ∙ ap (λ s. value_of (best_high s)) (union-of _ _ _ _ _ c.union-2.ensures c.set_of-2.ensures c.set_of-board.ensures) in
    let some : 5 ≤ length first = omega arith in
    let some' : 5 ≤ length second = omega arith in
    c.cmp.ensures ∙ ap (λ n. nat_cmp n c.high_of_set-second.result) one ∙ ap (λ n. nat_cmp (value_of (best_high first)) n) other
    ∙ c.law_best_numbers_keep_order.ensures first second some some'
