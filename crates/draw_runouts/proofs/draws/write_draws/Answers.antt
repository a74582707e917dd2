use Rattle.std.proofs.Common.{◌-◌, ap, ◌∙◌, take}
use Rattle.runout_walk.proofs.CallerLemmas.{written}
use Rattle.draw_runouts.proofs.draws.write_draws.Goals as goal

pub returns-clause-numbers : goal.returns-clause-numbers
returns-clause-numbers c =
    let was = c.args.values.now in
    ap (take (c.args.range.hi - c.args.range.lo)) (written was.len c.put_draws.new.values was.items (c.put_draws.ensures.room ∙ c.as_mut_slice.ensures.len)) ∙ c.put_draws.ensures.numbers
