use Rattle.draw_runouts.proofs.DrawLists.{two_numbers}
use Rattle.draw_runouts.proofs.last.put_twos.Goals as goal

pub returns-clause-numbers : goal.returns-clause-numbers
returns-clause-numbers c = λ planes. two_numbers c.args.rows.now planes c.args.cards.now c.put_pairs.new.values c.args.range.lo c.args.range.hi c.put_pairs.ensures.numbers
