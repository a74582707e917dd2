use Rattle.std.proofs.Common.{◌≡◌, ap, ◌∙◌, length, take, set, length-set, arith, rules}
use Rattle.card_sets.specs.Cards.{minus}
use Rattle.runout_ranges.specs.declared.shapes.Receiver.TheVariants.{Board}
use Rattle.runout_ranges.proofs.SlotSteps.{first_left, sum_slots, filled, same_rest}
use Rattle.runout_ranges.proofs.successor.+fill_slots.Goals as goal

pub fill_slots-requires : goal.fill_slots-requires
fill_slots-requires t c =
    let slots = c.args.slots.now in
    let s = sum_slots slots record { receiver = Board; count = 0 } (omega arith) in
    let l = first_left c.from.result c.args.unseen c.minus.ensures.set (omega arith) in
    let m : length c.minus.result ≡ length (minus c.args.unseen (take c.from.result c.args.unseen)) = ap length c.minus.ensures.value ∙ ap (λ x. length (minus c.args.unseen x)) c.least-first.ensures in
    (search rules, (same_rest slots (set c.args.sets.now 0 c.least-first.result) (omega (arith, length-set c.args.sets.now 0 c.least-first.result)), omega arith))

pub returns : goal.returns
returns t c =
    let slots = c.args.slots.now in
    let s = sum_slots slots record { receiver = Board; count = 0 } (omega arith) in
    filled c.args.unseen c.minus.result c.least-first.result slots record { receiver = Board; count = 0 } c.from.result c.args.sets.now c.fill_slots.new.sets (omega arith) (omega arith) c.minus.ensures.set c.from.ensures (omega arith) c.least-first.ensures c.minus.ensures.value c.fill_slots.ensures
