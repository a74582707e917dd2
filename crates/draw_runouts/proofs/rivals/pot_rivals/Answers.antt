use Rattle.std.proofs.Common.{◌≡◌, ◌<◌, ℕ, List, length, ◌∙◌, arith}
use Rattle.std.proofs.Math.ListN.{length-set}
use Rattle.showdown_tally.specs.Deals.{deal_of}
use Rattle.showdown_tally.specs.Showdown.{eligible_in}
use Rattle.draw_runouts.specs.LastHand.{value_with, won_set}
use Rattle.draw_runouts.specs.declared.winners.Winners.{Winners}
use Rattle.draw_runouts.proofs.DrawOrders.{more_won}
use Rattle.draw_runouts.proofs.rivals.pot_rivals.Goals as goal

pub loop-pot-preserved : goal.loop-pot-preserved
loop-pot-preserved c =
    let was = c.loop-pot.invariant in
    let table = c.args.table.now in
    let pot : ℕ = c.loop-pot.pot in
    let all : List Winners = c.loop-pot.all in
    let i : ℕ = c.from.result in
    let inside : i < length all = (let t = c.loop-pot-test.true in let n = was.ten in let a = c.from.ensures in let f = table.few_pots in omega arith) in
    record {
      winners = λ p value l. more_won (λ p value set. set ≡ won_set c.args.qualify (value_with c.args.values.now c.args.last value) (eligible_in (deal_of table) p)) all pot i c.rivals_of.result c.from.ensures inside was.winners c.rivals_of.ensures p value (omega arith);
      ten = length-set all i c.rivals_of.result ∙ was.ten;
    }

pub returns-clause-winners : goal.returns-clause-winners
returns-clause-winners c = λ pot value l. c.loop-pot.invariant.winners pot value (let t = c.loop-pot-test.false in omega arith)
