use Rattle.std.proofs.Common.{◌≡◌, drop}
use Rattle.history_text.specs.Acts.{first_opening}
use Rattle.history_text.proofs.openings.first_opening.Given as goal

abbrev pub invariant-loop-opening : goal.invariant-loop-opening
invariant-loop-opening g l =
    first_opening (g.X.Opening.words_in l.game) (drop l.opening-index l.openings) l.text ≡ first_opening (g.X.Opening.words_in l.game) l.openings l.text
