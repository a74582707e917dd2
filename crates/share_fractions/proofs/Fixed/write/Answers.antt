use Rattle.std.proofs.Common.{ap, arith, ◌∙◌}
use Rattle.std.specs.Fmt.{decimal}
use Rattle.share_fractions.proofs.TextPieces.{behind_both, text_from_pieces, text_from_whole}
use Rattle.share_fractions.proofs.Fixed.write.Goals as goal

pub returns-then-self-gt0-clause-written : goal.returns-then-self-gt0-clause-written
returns-then-self-gt0-clause-written c =
    text_from_pieces _ _ _ _ _ _ c.if-self-gt0.true c.power_of_ten.ensures.value
    (c.put_bytes-end.ensures.written ∙ c.as_bytes.ensures.value ∙ c.format.ensures.text ∙ ap decimal c.quotient-units.ensures)
    c.put_byte-end.ensures.written c.put_places-end.ensures.written

pub returns-then-self-gt0-clause-behind : goal.returns-then-self-gt0-clause-behind
returns-then-self-gt0-clause-behind c =
    behind_both _ _ _ c.put_byte-end.result _
    (behind_both _ _ _ c.put_bytes-end.result _ c.put_bytes-end.ensures.behind c.put_byte-end.ensures.behind
    (omega arith))
    c.put_places-end.ensures.behind (omega arith)

pub returns-else-self-gt0-clause-written : goal.returns-else-self-gt0-clause-written
returns-else-self-gt0-clause-written c =
    text_from_whole _ _ _ _ c.if-self-gt0.false c.power_of_ten.ensures.value
    (c.put_bytes-end.ensures.written ∙ c.as_bytes.ensures.value ∙ c.format.ensures.text ∙ ap decimal c.quotient-units.ensures)
