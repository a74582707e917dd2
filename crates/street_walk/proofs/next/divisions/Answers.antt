use Rattle.std.proofs.Common.{◌≤◌, sum, take, arith}
use Rattle.runout_ranges.specs.Slots.{counts_of}
use Rattle.street_walk.proofs.StreetParts.{divided_fits}
use Rattle.street_walk.proofs.next.divisions.Goals as goal

pub divided-requires : goal.divided-requires
divided-requires c =
    let whole = c.in-Some.whole in
    let few : sum (counts_of (take whole.used whole.slots)) ≤ 52 = (let e = whole.enough in let b = c.count-few.ensures.bound in let v = c.count-few.ensures.value in omega arith) in
    record { deck = few; fits = divided_fits c.args.known.now.game (take whole.used whole.slots) few }
