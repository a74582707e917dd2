use Rattle.std.proofs.Common.{sym, ap, ◌∙◌}
use Rattle.std.specs.Prelude.{slice_get}
use mathlib.Core.Bool.{true≢false}
use Rattle.board_runouts.specs.Codes.{AreCodes}
use Rattle.board_ranks.proofs.CallerLemmas.{all_push}
use Rattle.board_runouts.proofs.coded_rows.CodedRows.reach.Goals as goal

pub loop-self-preserved : goal.loop-self-preserved
loop-self-preserved c = λ deal was i codes at.
    all_push (AreCodes deal) c.loop-self.self.list.items c.none.result (c.loop-self.invariant deal was) (λ e. absurd (true≢false (sym e ∙ c.none.ensures))) i codes
    (ap (λ list. slice_get list i) (sym c.push_reserved.ensures.items) ∙ at)
