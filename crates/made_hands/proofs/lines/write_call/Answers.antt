use Rattle.std.proofs.Common.{◌≡◌, true, nat_le, arith}
use Rattle.made_hands.specs.Lines.{call_line}
use Rattle.made_hands.proofs.TextPieces.{one_more, last_more}
use Rattle.made_hands.proofs.lines.write_call.Goals as goal

pub returns-then-deal : goal.returns-then-deal
unfolding call_line
returns-then-deal c =
    let was = c.args.out.now.items in
    let deal = c.args.deal.now in
    let all : nat_le deal.first_stack deal.second_stack ≡ true = grind arith in
    let number = rw c.stake.ensures at c.in_ok-write_number.ensures in
    rw all (last_more _ was _ _ _ _ (one_more was _ _ _ _ c.in_ok-extend_from_slice.ensures.items number)
    c.extend_from_slice-then-deal.ensures.items)
