use Rattle.std.proofs.Common.{◌+◌, ◌*◌, ◌-◌, ◌<◌, ◌^◌, ◌∙◌, sym, ap, subst, arith}
use Rattle.hand_ranges.specs.Boards.{level_of}
use Rattle.hand_ranges.specs.Taken.{chosen}
use Rattle.hand_ranges.proofs.EndSums.{tops_small}
use Rattle.hand_ranges.proofs.ShownChoices.{last_sum, same_worth}
use Rattle.hand_ranges.proofs.showdowns.add_last.Goals as goal

pub add-requires-clause-winners : goal.add-requires-clause-winners
add-requires-clause-winners c = let small = tops_small c.args.taken.now.values _ (2 ^ c.args.taken.now.count - 1) c.args.taken.now.count in subst (λ set. set < 2 ^ c.args.taken.now.count) (sym c.tops-winners.ensures) small

pub returns-clause-grows : goal.returns-clause-grows
returns-clause-grows c = λ by_set each.
    let taken = chosen c.args.taken.now in
    let n = c.args.taken.now.count in
    let weight = c.args.taken.now.weight in
    let set = c.tops-winners.result in
    let v = c.compare-sums.result in
    let grown = c.add.ensures.grows by_set each in
    let worth = c.compare-sums.ensures.worth (weight * by_set set) (weight * by_set (set + 2 ^ n)) (weight * by_set (2 ^ n)) each in
    let all = last_sum c.args.full taken c.args.hands.now c.args.taken.now.values n weight c.level_of-level.result set c.cards.result by_set each
    c.facts.ensures.count (c.requires.values c.requires.five) c.facts.ensures.disjoint c.facts.ensures.product c.cards.ensures c.requires.shown
    (c.level_of-level.ensures ∙ ap level_of c.top_of.ensures) c.tops-winners.ensures in
    let same = same_worth weight v.less v.same v.more v.hands (by_set set) (by_set (set + 2 ^ n)) (by_set (2 ^ n)) each in
    grown ∙ omega (arith, same, worth, all)
