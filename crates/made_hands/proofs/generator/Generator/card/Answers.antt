use Rattle.std.proofs.Common.{rules, length, ap, arith}
use Rattle.made_hands.specs.Deals.{card_drawn, left_behind}
use Rattle.made_hands.proofs.DrawnNumbers.{length-left_behind}
use Rattle.made_hands.proofs.generator.Generator.card.Goals as goal

pub returns-clause-value : goal.returns-clause-value
unfolding card_drawn
returns-clause-value c = search rules

pub returns-clause-left : goal.returns-clause-left
unfolding card_drawn left_behind
returns-clause-left c = search rules

pub returns-clause-fewer : goal.returns-clause-fewer
returns-clause-fewer c =
    let left = c.args.left.now in
    let state = c.args.self.now.state in
    omega (arith, ap length (returns-clause-left c), length-left_behind left state c.rising.ensures.set c.requires)
