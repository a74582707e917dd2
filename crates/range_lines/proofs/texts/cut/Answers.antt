use Rattle.std.proofs.Common.{◌∷◌, sym, ap, ◌∙◌, take, drop}
use Rattle.range_lines.specs.Texts.{texts_of}
use Rattle.range_lines.proofs.FirstComma.{cut_none, cut_some}
use Rattle.range_lines.proofs.texts.cut.Goals as goal

pub returns-in-Some : goal.returns-in-Some
returns-in-Some c =
    cut_some _ _ (sym c.comma_at.ensures ∙ c.in-Some.is)
    ∙ ap (λ l. take c.in-Some.place c.args.bytes.now ∷ texts_of l) (sym (c.split_at-in-Some.ensures.back ∙ ap (drop 1) c.split_at.ensures.back))
    ∙ ap (λ l. l ∷ texts_of c.split_at-in-Some.result.1.now) (sym c.split_at.ensures.front)

pub returns-in-None : goal.returns-in-None
returns-in-None c = cut_none _ (sym c.comma_at.ensures ∙ c.in-None.is)
