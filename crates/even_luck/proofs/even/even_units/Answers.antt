use Rattle.std.proofs.Common.{◌*◌, ◌≤◌, ◌^◌, subst, sym, arith}
use Rattle.even_luck.proofs.TallyFacts.{even_small}
use Rattle.even_luck.proofs.even.even_units.Goals as goal

pub returns-clause-bound : goal.returns-clause-bound
returns-clause-bound c =
    let runouts = c.runouts.ensures in
    let from = c.from.ensures in
    let some = c.requires.some in
    let bound = c.given_of-given.ensures.bound in
    subst (λ n. n ≤ 2 ^ 95) (sym c.rounded.ensures.value) (even_small c.given_of-given.result (5040 * c.from.result) (omega arith) (omega arith))
