use Rattle.std.proofs.Common.{ℕ, ◌-◌, ◌==◌, ◌++◌, ◌∙◌, sym, ap, arith, append_assoc}
use Rattle.std.specs.Prelude.{filter, slice_index_or}
use Rattle.card_sets.specs.PlayerSets.{seats_in}
use Rattle.hand_audit.specs.Orders.{by_marks_below}
use Rattle.hand_audit.proofs.lemmas.splits.MarkOrder.{marks_step, room_first, room_then}
use Rattle.hand_audit.proofs.orders.+add_marked.Goals as goal

pub add_of_mark-requires : goal.add_of_mark-requires
add_of_mark-requires t c = record { room = room_first _ _ _ _ (marks_step (λ p. slice_index_or c.args.marks.now p 0) (seats_in c.args.winners) c.args.below c.if-below-eq0.false) c.requires.room }

pub add_marked-requires : goal.add_marked-requires
add_marked-requires t c =
    (omega (arith, c.decreases, c.if-below-eq0.false), room_then _ _ _ _ _ (marks_step (λ p. slice_index_or c.args.marks.now p 0) (seats_in c.args.winners) c.args.below c.if-below-eq0.false) c.add_of_mark.ensures c.requires.room)

pub returns : goal.returns
returns t c =
    let m : ℕ → ℕ = λ p. slice_index_or c.args.marks.now p 0 in
    let xs = seats_in c.args.winners in
    let here = filter (λ p. slice_index_or c.args.marks.now p 0 == c.args.below - 1) xs in
    let rest = by_marks_below m xs (c.args.below - 1) in
    c.add_marked.ensures ∙ ap (λ ys. ys ++ rest) c.add_of_mark.ensures ∙ append_assoc c.args.order.now here rest
    ∙ ap (λ ys. c.args.order.now ++ ys) (sym (marks_step m xs c.args.below c.if-below-eq0.false))
