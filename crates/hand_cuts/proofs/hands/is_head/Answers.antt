use Rattle.std.proofs.Common.{◌∙◌, ap, sym}
use Rattle.history_text.specs.Headers.{is_header}
use Rattle.line_text.specs.Lines.{text_of}
use Rattle.hand_cuts.proofs.HeaderFronts.{no_header, no_line}
use Rattle.hand_cuts.proofs.hands.is_head.Goals as goal

pub returns-in_default : goal.returns-in_default
returns-in_default c = sym (no_line c.args.line.now c.in_default.ensures.cases)

pub returns-then-not-may_begin_head : goal.returns-then-not-may_begin_head
returns-then-not-may_begin_head c =
    let whole = c.in-Some.ensures.cases.0 in
    sym (ap (λ line. is_header (text_of line)) whole ∙ no_header c.in-Some.first.now c.in-Some._others.now (sym c.may_begin_head.ensures ∙ c.if-not-may_begin_head.true))
