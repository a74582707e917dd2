use Rattle.made_hands.specs.Lines.{title_lines}
use Rattle.made_hands.proofs.TextPieces.{one_more, last_more}
use Rattle.made_hands.proofs.lines.write_title.Goals as goal

pub returns : goal.returns
unfolding title_lines
returns c =
    let was = c.args.out.now.items in
    last_more _ was _ _ _ _ (one_more was _ _ _ _ c.in_ok-extend_from_slice.ensures.items c.in_ok-write_number.ensures)
    c.extend_from_slice-2.ensures.items
