use Rattle.std.proofs.Common.{arith}
use Rattle.hand_ranges.proofs.EndSums.{bit_of, bit_small, set_small, times_light, times_small}
use Rattle.hand_ranges.proofs.ends.Ends.add.Goals as goal

pub put-requires-clause-place : goal.put-requires-clause-place
put-requires-clause-place c = omega (arith, c.bits.ensures, set_small c.args.winners c.args.count c.requires.count c.requires.winners)

pub put-requires-2-clause-place : goal.put-requires-2-clause-place
put-requires-2-clause-place c =
    omega (arith, c.bits-2.ensures, set_small c.args.winners c.args.count c.requires.count c.requires.winners, bit_of c.args.count c.requires.count, bit_small c.args.count c.requires.count)

pub put-requires-2-clause-few : goal.put-requires-2-clause-few
put-requires-2-clause-few c = omega (arith, c.put.ensures.choices, c.requires.few)

pub put-requires-2-clause-within : goal.put-requires-2-clause-within
put-requires-2-clause-within c =
    let v = c.args.versus in
    let a = c.put.ensures.grows (λ set. 1) 0 in
    let x = times_small c.args.weight v.less v.hands c.requires.weight (omega (arith, c.requires.light)) c.requires.hands in
    omega (arith, a, x, c.requires.within, c.requires.few)

pub put-requires-3-clause-place : goal.put-requires-3-clause-place
put-requires-3-clause-place c = omega (arith, bit_of c.args.count c.requires.count, bit_small c.args.count c.requires.count)

pub put-requires-3-clause-few : goal.put-requires-3-clause-few
put-requires-3-clause-few c = omega (arith, c.put.ensures.choices, c.put-2.ensures.choices, c.requires.few)

pub put-requires-3-clause-within : goal.put-requires-3-clause-within
put-requires-3-clause-within c =
    let v = c.args.versus in
    let a = c.put.ensures.grows (λ set. 1) 0 in
    let b = c.put-2.ensures.grows (λ set. 1) 0 in
    let x = times_small c.args.weight v.less v.hands c.requires.weight (omega (arith, c.requires.light)) c.requires.hands in
    let y = times_small c.args.weight v.same v.hands c.requires.weight (omega (arith, c.requires.light)) c.requires.hands in
    omega (arith, a, b, x, y, c.requires.within, c.requires.few)

pub overflow_add-self : goal.overflow_add-self
overflow_add-self c = omega (arith, c.put.ensures.choices, c.put-2.ensures.choices, c.put-3.ensures.choices, c.from.ensures, c.requires.few, c.requires.hands)

pub returns-clause-within : goal.returns-clause-within
returns-clause-within c =
    let v = c.args.versus in
    let a = c.put.ensures.grows (λ set. 1) 0 in
    let b = c.put-2.ensures.grows (λ set. 1) 0 in
    let d = c.put-3.ensures.grows (λ set. 1) 0 in
    let light = times_light c.args.weight v.less v.same v.more v.hands c.requires.weight c.requires.light in
    omega (arith, a, b, d, light, c.put.ensures.choices, c.put-2.ensures.choices, c.put-3.ensures.choices, c.from.ensures, c.requires.within)
