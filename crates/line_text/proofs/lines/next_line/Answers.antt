use Rattle.std.proofs.Common.{◌≡◌, ◌∷◌, ◌∙◌, ◌-◌, ap, arith, drop, length, length-drop, List, ℕ, slice_range, subst, sym, take}
use Rattle.std.proofs.lemmas.List.{take_all}
use Rattle.line_text.specs.declared.lines.Line.{Line}
use Rattle.line_text.specs.Lines.{lines}
use Rattle.line_text.proofs.LineFacts.{front_line-take}
use Rattle.line_text.proofs.PlaceFacts.{line_at-read, line_at-texts}
use Rattle.line_text.proofs.lines.next_line.Goals as goal

pub returns-clause-numbers : goal.returns-clause-numbers
returns-clause-numbers c =
    let rest : List ℕ = take (length c.args.bytes.now - c.args.at) (drop c.args.at c.args.bytes.now) in
    line_at-read c.args.bytes.now rest (take c.front_line_length.result rest) c.args.at _ _ _ c.requires
    (take_all (length c.args.bytes.now - c.args.at) (drop c.args.at c.args.bytes.now)
    (omega (arith, length-drop c.args.at c.args.bytes.now)))
    (ap (λ n. take n rest) c.front_line_length.ensures.value ∙ front_line-take rest)
    c.mark_length-marked.ensures.value c.length_without_blanks.ensures.value c.min.ensures

pub returns-clause-texts : goal.returns-clause-texts
returns-clause-texts c =
    let HasTexts : Line → Type 0 = λ line.
    lines (drop c.args.at c.args.bytes.now)
    ≡ slice_range c.args.bytes.now line.first line.end ∷ lines (drop line.next c.args.bytes.now) in
    subst HasTexts (sym (returns-clause-numbers c)) (line_at-texts c.args.bytes.now c.args.at (omega arith))
