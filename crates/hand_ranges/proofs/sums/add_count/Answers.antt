use Rattle.std.proofs.Common.{ℕ, sym, subst, arith}
use Rattle.card_sets.specs.declared.games.Side.TheVariants.{High}
use Rattle.showdown_tally.specs.Cells.{cell_at, units_at}
use Rattle.showdown_tally.specs.declared.cells.Cell.{Cell}
use Rattle.range_lines.specs.Walks.{Choices, Weight, GrowsBy, count_adds}
use Rattle.hand_ranges.proofs.TallySums.{choice_grows, choice_within}
use Rattle.hand_ranges.proofs.sums.add_count.Goals as goal

pub end_choice-requires-clause-few : goal.end_choice-requires-clause-few
end_choice-requires-clause-few c = let same = c.add_hands.ensures.grows Choices in omega (arith, same, c.requires.few)

pub end_choice-requires-clause-room : goal.end_choice-requires-clause-room
end_choice-requires-clause-room c =
    let same = c.add_hands.ensures.grows Weight in
    let within = c.requires.within Weight in
    omega (arith, same, within, c.requires.few)

pub returns-clause-within : goal.returns-clause-within
returns-clause-within c =
    let cells : ℕ → Cell = λ h. cell_at c.args.tally.now 0 h High in
    let units : ℕ → ℕ = λ h. units_at c.args.tally.now 0 h in
    let old = c.args.total.now in
    choice_within old c.end_choice.new.total c.args.count c.args.weight cells units c.requires.weight c.requires.within
    (subst (λ t. GrowsBy old t (count_adds c.args.count c.args.weight cells units)) (sym c.end_choice.ensures) (choice_grows old c.add_hands.new.total c.args.count c.args.weight cells units c.add_hands.ensures.grows))
    c.add_hands.ensures.small
