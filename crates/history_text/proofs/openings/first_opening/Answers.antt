use Rattle.std.proofs.Common.{ap, ◌∙◌}
use Rattle.history_text.specs.Texts.{behind}
use Rattle.history_text.proofs.OpeningLists.{opening_here, opening_past}
use Rattle.history_text.proofs.openings.first_opening.Goals as goal

pub loop-opening-preserved : goal.loop-opening-preserved
loop-opening-preserved g c =
    opening_past (g.X.Opening.words_in c.args.game) c.args.openings.now c.loop-opening.opening-index c.opening-item.result c.args.text.now c.loop-opening-test.true c.opening-item.is
    (c.in_default.ensures.value ∙ ap (λ words. behind words c.args.text.now) c.words.ensures) ∙ c.loop-opening.invariant

pub returns-in-Some : goal.returns-in-Some
returns-in-Some g c =
    opening_here (g.X.Opening.words_in c.args.game) c.args.openings.now c.loop-opening.opening-index c.opening-item.result c.args.text.now c.in-Some.rest.now c.loop-opening-test.true c.opening-item.is
    (c.in-Some.ensures.value ∙ ap (λ words. behind words c.args.text.now) c.words.ensures) ∙ c.loop-opening.invariant
