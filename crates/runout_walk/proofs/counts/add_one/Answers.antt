use Rattle.std.proofs.Common.{◌≡◌, ◌+◌, ◌<◌, ◌^◌, ◌∙◌, ℕ, sym, arith, subst}
use Rattle.card_sets.specs.declared.games.Side.TheVariants.{High, Low}
use Rattle.showdown_tally.specs.SideCounts.{count_at}
use Rattle.runout_walk.specs.OneMore.{AddsAt}
use Rattle.runout_walk.proofs.OneRunoutMore.{add_zero, both_added}
use Rattle.runout_walk.proofs.counts.add_one.Goals as goal

pub add_side-requires-clause-fits : goal.add_side-requires-clause-fits
add_side-requires-clause-fits c = λ has.
    let P : ℕ → Type 0 = λ m. count_at c.args.counts.now c.args.pot High (c.args.high + m) + 1 < 2 ^ 32 in
    subst P (sym c.low_mark.ensures.value) (c.requires.fits High has)

pub add_side-requires-2-clause-fits : goal.add_side-requires-2-clause-fits
add_side-requires-2-clause-fits c = λ has.
    let same : count_at c.add_side.new.counts c.args.pot Low c.args.low ≡ count_at c.args.counts.now c.args.pot Low c.args.low = c.add_side.ensures.counts c.args.pot c.args.low Low ∙ add_zero (count_at c.args.counts.now c.args.pot Low c.args.low) in
    let f = c.requires.fits Low has in
    omega arith

pub returns-clause-counts : goal.returns-clause-counts
returns-clause-counts c =
    let P : ℕ → Type 0 = λ m. AddsAt c.args.game High c.args.pot (c.args.high + m) c.args.counts.now c.add_side.new.counts in
    both_added c.args.game c.args.pot c.args.high c.args.low c.args.counts.now c.add_side.new.counts c.add_side-2.new.counts (subst P c.low_mark.ensures.value c.add_side.ensures.counts) c.add_side-2.ensures.counts
