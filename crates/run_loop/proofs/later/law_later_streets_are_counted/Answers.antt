use Rattle.run_loop.proofs.LaterFacts.{all_counted}
use Rattle.run_loop.proofs.later.law_later_streets_are_counted.Goals as goal

pub returns-in-Accepted : goal.returns-in-Accepted
returns-in-Accepted c =
    let x = c.in-Accepted in
    all_counted c.law_later_streets_know_no_less.ensures c.args.audit.now x.settlement x.all_in x.names x.players x.is c.args.states.now c.are_counted_behind.ensures
