use Rattle.std.proofs.Common.{rules, ◌≡◌, ◌*◌, ◌≤◌, ◌^◌, ap, length, arith}
use Rattle.std.proofs.lemmas.Nat.{mul-le}
use Rattle.range_lines.proofs.CallerLemmas.{few_first, most_fits}
use Rattle.hand_ranges.proofs.counts.+most_choices.Goals as goal

pub overflow_mul-result : goal.overflow_mul-result
overflow_mul-result t c =
    let first = few_first c.args.ranges.now c.range-item.result (omega arith) c.requires.few in
    let same : length c.hands.result.now ≡ length c.range-item.result = ap length c.hands.ensures in
    let is = ap length c.range-item.is in
    let rest : c.most_choices.result ≤ 2 ^ 44 = most_fits _ c.most_choices.result (search rules) c.most_choices.ensures.bound in
    let product : length c.hands.result.now * c.most_choices.result ≤ 1326 * 2 ^ 44 = mul-le (length c.hands.result.now) c.most_choices.result 1326 (2 ^ 44) (omega arith) rest in
    omega arith
