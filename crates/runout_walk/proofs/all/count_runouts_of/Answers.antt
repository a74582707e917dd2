use Rattle.std.proofs.Common.{◌≡◌, ◌-◌, [], List, ap, ◌∙◌, arith, length, take, drop, refl}
use Rattle.runout_ranges.specs.Slots.{counts_of}
use Rattle.runout_ranges.specs.Ways.{ways}
use Rattle.runout_ranges.specs.declared.shapes.Receiver.TheVariants.{Board}
use Rattle.runout_ranges.specs.declared.shapes.Slot.{Slot}
use Rattle.showdown_tally.specs.Tallies.{runouts_after}
use Rattle.runout_walk.specs.Listing.{going_on}
use Rattle.runout_walk.proofs.WalkSteps.{first_of, grown_all}
use Rattle.runout_walk.proofs.all.count_runouts_of.Goals as goal

pub overflow_sub-count : goal.overflow_sub-count
overflow_sub-count g c =
    let s = first_of (g.F.Leaf.deal c.args.leaf.now) (g.F.Leaf.depth (g.F.Leaf.deal c.args.leaf.now)) c.args.shape.now record { receiver = Board; count = 0 } c.from-count.result c.from.result c.from.ensures c.requires.shape c.requires.some c.rising.ensures.set c.from-count.ensures c.requires.deep c.requires.fits64 in
    omega (arith, s.within, c.count.ensures.value)

pub count_ways-requires-clause-fits : goal.count_ways-requires-clause-fits
count_ways-requires-clause-fits g c =
    let s = first_of (g.F.Leaf.deal c.args.leaf.now) (g.F.Leaf.depth (g.F.Leaf.deal c.args.leaf.now)) c.args.shape.now record { receiver = Board; count = 0 } c.from-count.result c.from.result c.from.ensures c.requires.shape c.requires.some c.rising.ensures.set c.from-count.ensures c.requires.deep c.requires.fits64 in
    rw c.count.ensures.value s.fewer

pub count_range-requires-clause-at : goal.count_range-requires-clause-at
count_range-requires-clause-at g c =
    let xs : List Slot = take c.from.result c.args.shape.now.slots in
    let later : List Slot = take (length xs - 1) (drop 1 xs) in
    let s = first_of (g.F.Leaf.deal c.args.leaf.now) (g.F.Leaf.depth (g.F.Leaf.deal c.args.leaf.now)) c.args.shape.now record { receiver = Board; count = 0 } c.from-count.result c.from.result c.from.ensures c.requires.shape c.requires.some c.rising.ensures.set c.from-count.ensures c.requires.deep c.requires.fits64 in
    s.at c.empty.result c.count_ways.result c.empty.ensures (c.count_ways.ensures ∙ ap (λ n. ways (n - c.from-count.result) (counts_of later)) c.count.ensures.value)

pub count_range-requires-clause-inside : goal.count_range-requires-clause-inside
count_range-requires-clause-inside g c =
    let xs : List Slot = take c.from.result c.args.shape.now.slots in
    let later : List Slot = take (length xs - 1) (drop 1 xs) in
    let s = first_of (g.F.Leaf.deal c.args.leaf.now) (g.F.Leaf.depth (g.F.Leaf.deal c.args.leaf.now)) c.args.shape.now record { receiver = Board; count = 0 } c.from-count.result c.from.result c.from.ensures c.requires.shape c.requires.some c.rising.ensures.set c.from-count.ensures c.requires.deep c.requires.fits64 in
    let cards = c.args.shape.now.unseen in
    let same : length (going_on cards c.empty.result cards c.from-count.result (counts_of later)) ≡ length (runouts_after (g.F.Leaf.deal c.args.leaf.now).state) = ap (λ e. length (going_on cards e cards c.from-count.result (counts_of later))) c.empty.ensures ∙ ap length s.all in
    let i = c.requires.inside in
    omega arith

pub returns-clause-counts : goal.returns-clause-counts
returns-clause-counts g c =
    let xs : List Slot = take c.from.result c.args.shape.now.slots in
    let later : List Slot = take (length xs - 1) (drop 1 xs) in
    let s = first_of (g.F.Leaf.deal c.args.leaf.now) (g.F.Leaf.depth (g.F.Leaf.deal c.args.leaf.now)) c.args.shape.now record { receiver = Board; count = 0 } c.from-count.result c.from.result c.from.ensures c.requires.shape c.requires.some c.rising.ensures.set c.from-count.ensures c.requires.deep c.requires.fits64 in
    let cards = c.args.shape.now.unseen in
    grown_all (g.F.Leaf.deal c.args.leaf.now) [] (runouts_after (g.F.Leaf.deal c.args.leaf.now).state) (going_on cards c.empty.result cards c.from-count.result (counts_of later)) c.args.lo c.args.hi c.args.counts.now c.count_range.new.counts refl
    (ap (λ e. going_on cards e cards c.from-count.result (counts_of later)) c.empty.ensures ∙ s.all) c.count_range.ensures.counts
