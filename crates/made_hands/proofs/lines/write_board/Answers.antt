use Rattle.made_hands.specs.Lines.{board_lines}
use Rattle.made_hands.proofs.TextPieces.{one_more, last_more}
use Rattle.made_hands.proofs.lines.write_board.Goals as goal

pub returns : goal.returns
unfolding board_lines
returns c =
    let was = c.args.out.now.items in
    let flop = one_more was _ _ _ _ c.in_ok-extend_from_slice.ensures.items c.in_ok-write_cards.ensures in
    let gap = one_more was _ _ _ _ flop c.in_ok-extend_from_slice-2.ensures.items in
    let turn = one_more was _ _ _ _ gap c.in_ok-write_cards-2.ensures in
    let river = one_more was _ _ _ _ turn c.in_ok-extend_from_slice-3.ensures.items in
    let four = one_more was _ _ _ _ river c.in_ok-write_cards-3.ensures in
    let gap' = one_more was _ _ _ _ four c.in_ok-extend_from_slice-4.ensures.items in
    let last = one_more was _ _ _ _ gap' c.in_ok-write_cards-4.ensures in
    last_more _ was _ _ _ _ last c.extend_from_slice-5.ensures.items
