use Rattle.std.proofs.Common.{◌≡◌, ◌++◌, ◌∙◌, ap, arith, length}
use Rattle.std.specs.Prelude.{slice_index_or}
use Rattle.card_sets.specs.PlayerSets.{seats_in}
use Rattle.hand_audit.specs.Orders.{by_marks_below}
use Rattle.hand_audit.proofs.lemmas.splits.MarkOrder.{few_marked, by_marks_is}
use Rattle.hand_audit.proofs.orders.by_marks.Goals as goal

pub add_marked-requires : goal.add_marked-requires
add_marked-requires c = let none : length c.none-order.result ≡ 0 = ap length c.none-order.ensures in record { room = omega (arith, none, few_marked (λ p. slice_index_or c.args.marks.now p 0) c.args.winners 52) }

pub returns : goal.returns
returns c =
    by_marks_is (λ p. slice_index_or c.args.marks.now p 0) c.args.winners _
    (c.add_marked.ensures ∙ ap (λ xs. xs ++ by_marks_below (λ p. slice_index_or c.args.marks.now p 0) (seats_in c.args.winners) 52) c.none-order.ensures)
