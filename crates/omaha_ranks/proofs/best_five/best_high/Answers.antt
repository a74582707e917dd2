use Rattle.std.proofs.Common.{◌∙◌, ap, sym, arith, length, map}
use Rattle.std.proofs.lemmas.Iterator.Consumers.{YieldsList-from_first, YieldsList-turn, YieldsList-end}
use Rattle.card_sets.proofs.CallerLemmas.{greatest}
use Rattle.rank_high.proofs.CallerLemmas.{number}
use Rattle.omaha_ranks.proofs.BestNumbers.{five-at, greatest-push, high_number-greatest, map-same}
use Rattle.omaha_ranks.proofs.best_five.best_high.Goals as goal

pub high_of_five-requires : goal.high_of_five-requires
high_of_five-requires c =
    let turn = YieldsList-turn (YieldsList-from_first (λ x. x) (λ s. s) c.args.fives (cc)) c.loop-five.yielded _ c.loop-five.yielded_by _ _ c.in-Some.five c.in-Some.is c.next.ensures.steps in
    ap length turn.1 ∙ five-at c.args.fives (length c.loop-five.yielded) c.in-Some.five c.requires turn.0

pub loop-five-preserved : goal.loop-five-preserved
loop-five-preserved c = omega (arith, greatest-push number c.loop-five.yielded c.in-Some.five)

pub returns : goal.returns
returns c =
    let end = YieldsList-end (YieldsList-from_first (λ x. x) (λ s. s) c.args.fives (cc)) c.loop-five.yielded _ c.loop-five.yielded_by _ _ c.in-None.is c.next.ensures.steps in
    c.loop-five.invariant ∙ ap (λ fives. greatest (map number fives)) (sym (map-same c.loop-five.yielded) ∙ end.0) ∙ sym (high_number-greatest c.args.fives c.requires)
