use Rattle.draw_runouts.proofs.DrawLists.{single_numbers}
use Rattle.draw_runouts.proofs.last.put_singles.Goals as goal

pub returns-clause-numbers : goal.returns-clause-numbers
returns-clause-numbers c = λ planes.
    single_numbers c.args.rows.now planes c.args.cards.now c.put_row.new.values c.args.range.lo c.args.range.hi c.requires.order c.requires.inside c.put_row.ensures.numbers
