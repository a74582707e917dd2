use Rattle.std.proofs.Common.{◌≡◌, ap, length, arith}
use Rattle.range_lines.proofs.CallerLemmas.{few_first}
use Rattle.hand_ranges.proofs.counts.+all_hands.Goals as goal

pub overflow_add-result : goal.overflow_add-result
overflow_add-result t c =
    let first = few_first c.args.ranges.now c.range-item.result (omega arith) c.requires.few in
    let same : length c.hands.result.now ≡ length c.range-item.result = ap length c.hands.ensures in
    let is = ap length c.range-item.is in
    omega (arith, first, same, is, c.all_hands.ensures, c.requires.four)

pub returns : goal.returns
returns t c =
    let first = few_first c.args.ranges.now c.range-item.result (omega arith) c.requires.few in
    let same : length c.hands.result.now ≡ length c.range-item.result = ap length c.hands.ensures in
    let is = ap length c.range-item.is in
    omega (arith, first, same, is, c.all_hands.ensures)
