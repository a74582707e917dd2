use Rattle.std.proofs.Common.{◌≡◌, ◌≤◌, length, ap, sym, subst, arith}
use Rattle.card_sets.specs.State.{state_of}
use Rattle.runout_ranges.specs.Jobs.{IsDeckShort}
use Rattle.runout_ranges.specs.declared.limits.TheConstants.{RUNOUT_MAX}
use Rattle.showdown_tally.specs.Tallies.{runouts_after}
use Rattle.range_lines.specs.Choices.{deal_of_choice}
use Rattle.range_lines.specs.RangeSpot.{ranges_in}
use Rattle.hand_ranges.specs.Taken.{chosen}
use Rattle.range_lines.proofs.CallerLemmas.{board_small, refused, choice_enough, walk_few}
use Rattle.hand_ranges.proofs.counts.count_choice.Goals as goal

pub table-table-requires-clause-size : goal.table-table-requires-clause-size
table-table-requires-clause-size c = board_small (length c.args.spot.now.board) c.requires.walk.sound.fits

pub unreachable-requires : goal.unreachable-requires
unreachable-requires c =
    let spot = ranges_in c.args.spot.now in
    let choice = chosen c.args.taken.now in
    let same : state_of c.table-table.result.known ≡ (deal_of_choice spot.board spot.dead choice).state = ap (λ d. d.state) c.table-table.ensures in
    let all : length choice ≡ length spot.ranges = omega (arith, c.requires.walk.all) in
    refused c.make.result (state_of c.table-table.result.known) c.in-Err.field-0 c.in-Err.is c.make.ensures.short c.make.ensures.above
    (subst (λ t. ¬ IsDeckShort t) (sym same) (choice_enough spot choice c.requires.walk.sound c.requires.walk.hands c.facts.ensures.disjoint all))
    (subst (λ t. length (runouts_after t) ≤ RUNOUT_MAX) (sym same) (walk_few spot choice c.requires.walk c.facts.ensures.disjoint))
