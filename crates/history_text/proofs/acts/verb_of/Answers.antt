use Rattle.std.proofs.Common.{◌∙◌, ap, sym}
use Rattle.history_text.specs.Acts.{first_opening, verb_of, verb_words}
use Rattle.history_text.proofs.acts.verb_of.Goals as goal

pub returns : goal.returns
returns c =
    let whole = c.in-Some.ensures.cases.0 in
    c.first_opening-2.ensures ∙ ap (first_opening verb_words c.verbs_with.result.now) whole ∙ c.verbs_with.ensures _ ∙ ap verb_of (sym whole)
