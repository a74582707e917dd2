use Rattle.std.proofs.Common.{◌-◌, ◌++◌, ◌∷◌, [], ℕ, List, arith, sym, subst}
use Rattle.runout_ranges.specs.Runouts.{HasMember}
use Rattle.showdown_tally.specs.Deals.{deal_of}
use Rattle.showdown_tally.specs.SideCounts.{CountsGrow}
use Rattle.showdown_tally.specs.Tallies.{runouts_after}
use Rattle.runout_walk.proofs.NoCardLeaf.{only_grown, only_length, only_member}
use Rattle.runout_walk.proofs.GrowingCounts.{room_less}
use Rattle.runout_walk.proofs.plain.PlainLeaf.count.Goals as goal

pub count_one-requires-clause-runout : goal.count_one-requires-clause-runout
count_one-requires-clause-runout g c =
    let P : List (List ℕ) → Type 0 = λ r. HasMember (runouts_after (deal_of c.args.self.now.table).state) r in
    let M : List ℕ → Type 0 = λ cards. HasMember (runouts_after (deal_of c.args.self.now.table).state) (c.args.span.now.front.now ++ cards ∷ []) in
    subst P (sym c.put_sets.ensures.written) (only_member M c.args.span.now.tail.taken c.args.span.now.tail.rest c.args.span.now.tail.left c.requires.deep c.requires.members)

pub returns-clause-counts : goal.returns-clause-counts
returns-clause-counts g c =
    let P : List (List ℕ) → Type 0 = λ r. CountsGrow (deal_of c.args.self.now.table) (r ∷ []) c.args.counts.now c.count_one.new.counts in
    only_grown (deal_of c.args.self.now.table) c.args.span.now.front.now c.args.span.now.tail.taken c.args.span.now.tail.rest c.args.span.now.tail.left c.args.span.now.lo c.args.span.now.hi c.args.counts.now c.count_one.new.counts c.requires.deep c.requires.order c.requires.inside (subst P c.put_sets.ensures.written c.count_one.ensures.counts)

pub count_one-requires-clause-fits : goal.count_one-requires-clause-fits
count_one-requires-clause-fits g c =
    let order = c.requires.order in
    room_less (deal_of c.args.self.now.table) c.args.counts.now (c.args.span.now.hi - c.args.span.now.lo) 1 (omega arith) c.requires.fits

pub returns-clause-steps : goal.returns-clause-steps
returns-clause-steps g c = omega (arith, only_length c.args.span.now.tail.left c.args.span.now.tail.rest c.requires.deep, c.requires.order, c.requires.inside, c.tick.ensures)
