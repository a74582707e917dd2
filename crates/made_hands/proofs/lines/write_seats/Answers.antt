use Rattle.made_hands.specs.Lines.{seat_lines}
use Rattle.made_hands.proofs.TextPieces.{one_more, last_more}
use Rattle.made_hands.proofs.lines.write_seats.Goals as goal

pub returns : goal.returns
unfolding seat_lines
returns c =
    let was = c.args.out.now.items in
    let first = one_more was _ _ _ _ c.in_ok-extend_from_slice.ensures.items c.in_ok-write_number.ensures in
    let between = one_more was _ _ _ _ first c.in_ok-extend_from_slice-2.ensures.items in
    let second = one_more was _ _ _ _ between c.in_ok-write_number-2.ensures in
    last_more _ was _ _ _ _ second c.extend_from_slice-3.ensures.items
