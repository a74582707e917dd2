use Rattle.std.proofs.Common.{◌-◌, refl, sym, ◌∙◌, length, take, drop, arith, rules}
use Rattle.runout_ranges.specs.declared.shapes.Receiver.TheVariants.{Board}
use Rattle.runout_ranges.specs.declared.shapes.Slot.{Slot}
use Rattle.runout_ranges.proofs.SlotSteps.{AtSlot, first_member, chosen_member, chosen_ends, next_follows, enough_left, enough_next, later_follows, later_ends, choice_follows, only_slot_ends, only_slot_follows, no_slots, same_rest, some_left, is_zero}
use Rattle.runout_ranges.proofs.successor.+advance_slots.Goals as goal

no_slot : Slot
no_slot = record { receiver = Board; count = 0 }

pub returns-in_default : goal.returns-in_default
returns-in_default t c = (no_slots c.args.unseen c.args.slots.now c.args.sets.now c.in_default.len_below, refl)

pub next_choice-requires : goal.next_choice-requires
next_choice-requires t c =
    let k : AtSlot c.args.unseen c.minus-left.result c.index-sets-0.result c.args.slots.now no_slot c.args.sets.now =
    record { some_slot = omega arith; some_set = omega arith; rises = c.minus-left.ensures.set; first = c.index-sets-0.is; others = c.minus-left.ensures.value; member = c.requires.member; enough = c.requires.enough } in
    chosen_member c.args.unseen c.minus-left.result c.index-sets-0.result c.args.slots.now no_slot c.args.sets.now k

pub returns-in_default-next_choice : goal.returns-in_default-next_choice
returns-in_default-next_choice t c =
    let k : AtSlot c.args.unseen c.minus-left.result c.index-sets-0.result c.args.slots.now no_slot c.args.sets.now =
    record { some_slot = omega arith; some_set = omega arith; rises = c.minus-left.ensures.set; first = c.index-sets-0.is; others = c.minus-left.ensures.value; member = c.requires.member; enough = c.requires.enough } in
    (only_slot_ends c.args.unseen c.minus-left.result c.index-sets-0.result c.args.slots.now no_slot c.args.sets.now k (is_zero (length (take (length c.args.slots.now - 1) (drop 1 c.args.slots.now))) (sym c.is_empty.ensures ∙ c.if-is_empty.true)) (chosen_ends c.args.unseen c.minus-left.result c.index-sets-0.result c.args.slots.now no_slot c.args.sets.now k c.in_default-next_choice.ensures), refl)

pub returns-then-is_empty : goal.returns-then-is_empty
returns-then-is_empty t c =
    let k : AtSlot c.args.unseen c.minus-left.result c.index-sets-0.result c.args.slots.now no_slot c.args.sets.now =
    record { some_slot = omega arith; some_set = omega arith; rises = c.minus-left.ensures.set; first = c.index-sets-0.is; others = c.minus-left.ensures.value; member = c.requires.member; enough = c.requires.enough } in
    only_slot_follows c.args.unseen c.minus-left.result c.index-sets-0.result c.in-Some.choice c.args.slots.now no_slot c.args.sets.now k (is_zero (length (take (length c.args.slots.now - 1) (drop 1 c.args.slots.now))) (sym c.is_empty.ensures ∙ c.if-is_empty.true)) c.requires.same (next_follows c.args.unseen c.minus-left.result c.index-sets-0.result c.in-Some.choice c.args.slots.now no_slot c.args.sets.now k c.in-Some.ensures)

pub advance_slots-requires : goal.advance_slots-requires
advance_slots-requires t c =
    let k : AtSlot c.args.unseen c.minus-left.result c.index-sets-0.result c.args.slots.now no_slot c.args.sets.now =
    record { some_slot = omega arith; some_set = omega arith; rises = c.minus-left.ensures.set; first = c.index-sets-0.is; others = c.minus-left.ensures.value; member = c.requires.member; enough = c.requires.enough } in
    (search rules, ((first_member c.args.unseen c.minus-left.result c.index-sets-0.result c.args.slots.now no_slot c.args.sets.now k).1, (same_rest c.args.slots.now c.args.sets.now c.requires.same, enough_left c.args.unseen c.minus-left.result c.index-sets-0.result c.args.slots.now no_slot c.args.sets.now k)))

pub returns-then-advance_slots : goal.returns-then-advance_slots
returns-then-advance_slots t c =
    let k : AtSlot c.args.unseen c.minus-left.result c.index-sets-0.result c.args.slots.now no_slot c.args.sets.now =
    record { some_slot = omega arith; some_set = omega arith; rises = c.minus-left.ensures.set; first = c.index-sets-0.is; others = c.minus-left.ensures.value; member = c.requires.member; enough = c.requires.enough } in
    later_follows c.args.unseen c.minus-left.result c.index-sets-0.result c.args.slots.now no_slot c.args.sets.now c.advance_slots.new.sets k c.if-advance_slots.ensures

pub next_choice-requires-2 : goal.next_choice-requires-2
next_choice-requires-2 t c =
    let k : AtSlot c.args.unseen c.minus-left.result c.index-sets-0.result c.args.slots.now no_slot c.args.sets.now =
    record { some_slot = omega arith; some_set = omega arith; rises = c.minus-left.ensures.set; first = c.index-sets-0.is; others = c.minus-left.ensures.value; member = c.requires.member; enough = c.requires.enough } in
    chosen_member c.args.unseen c.minus-left.result c.index-sets-0.result c.args.slots.now no_slot c.args.sets.now k

pub returns-in_default-next_choice-2 : goal.returns-in_default-next_choice-2
returns-in_default-next_choice-2 t c =
    let k : AtSlot c.args.unseen c.minus-left.result c.index-sets-0.result c.args.slots.now no_slot c.args.sets.now =
    record { some_slot = omega arith; some_set = omega arith; rises = c.minus-left.ensures.set; first = c.index-sets-0.is; others = c.minus-left.ensures.value; member = c.requires.member; enough = c.requires.enough } in
    later_ends c.args.unseen c.minus-left.result c.index-sets-0.result c.args.slots.now no_slot c.args.sets.now c.advance_slots.new.sets k c.if-advance_slots.ensures.0 c.if-advance_slots.ensures.1 (chosen_ends c.args.unseen c.minus-left.result c.index-sets-0.result c.args.slots.now no_slot c.args.sets.now k c.in_default-next_choice-2.ensures)

pub fill_slots-requires-clause-enough : goal.fill_slots-requires-clause-enough
fill_slots-requires-clause-enough t c =
    let k : AtSlot c.args.unseen c.minus-left.result c.index-sets-0.result c.args.slots.now no_slot c.args.sets.now =
    record { some_slot = omega arith; some_set = omega arith; rises = c.minus-left.ensures.set; first = c.index-sets-0.is; others = c.minus-left.ensures.value; member = c.requires.member; enough = c.requires.enough } in
    enough_next c.args.unseen c.minus-left.result c.index-sets-0.result c.in-Some-next_choice.next c.minus.result c.args.slots.now no_slot c.args.sets.now k c.in-Some-next_choice.ensures c.minus.ensures.value

pub returns : goal.returns
returns t c =
    let k : AtSlot c.args.unseen c.minus-left.result c.index-sets-0.result c.args.slots.now no_slot c.args.sets.now =
    record { some_slot = omega arith; some_set = omega arith; rises = c.minus-left.ensures.set; first = c.index-sets-0.is; others = c.minus-left.ensures.value; member = c.requires.member; enough = c.requires.enough } in
    choice_follows c.args.unseen c.minus-left.result c.index-sets-0.result c.in-Some-next_choice.next c.minus.result c.args.slots.now no_slot c.args.sets.now _ c.fill_slots.new.sets k c.if-advance_slots.ensures.0 (next_follows c.args.unseen c.minus-left.result c.index-sets-0.result c.in-Some-next_choice.next c.args.slots.now no_slot c.args.sets.now k c.in-Some-next_choice.ensures) c.minus.ensures.value c.fill_slots.ensures (some_left c.args.sets.now c.advance_slots.new.sets (omega arith))
