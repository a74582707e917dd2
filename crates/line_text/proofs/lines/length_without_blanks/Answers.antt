use Rattle.std.proofs.Common.{◌∙◌, ap, sym, arith, length}
use Rattle.line_text.proofs.TextFacts.{without_blanks-take_blank, length-without_blanks-take_other}
use Rattle.line_text.proofs.lines.length_without_blanks.Goals as goal

pub loop-end-preserved : goal.loop-end-preserved
loop-end-preserved c = record {
  within = omega arith;
  same =
      without_blanks-take_blank c.args.line.now c.loop-end.end (omega arith) (omega arith)
      (sym c.is_blank.ensures ∙ c.if-is_blank.true)
      ∙ c.loop-end.invariant.same;
}

pub returns-else-is_blank-clause-value : goal.returns-else-is_blank-clause-value
returns-else-is_blank-clause-value c =
    length-without_blanks-take_other c.args.line.now c.loop-end.end (omega arith) (omega arith)
    (sym c.is_blank.ensures ∙ c.if-is_blank.false)
    ∙ ap length c.loop-end.invariant.same
