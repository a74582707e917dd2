use Rattle.std.proofs.Common.{arith, rules}
use Rattle.runout_ranges.specs.declared.shapes.Receiver.TheVariants.{Board}
use Rattle.runout_ranges.specs.declared.shapes.Slot.{Slot}
use Rattle.street_walk.proofs.StreetParts.{at_front}
use Rattle.street_walk.proofs.next.+divided.Goals as goal

abbrev no_slot : Slot
no_slot = record { receiver = Board; count = 0 }

pub choices-requires-clause-deck : goal.choices-requires-clause-deck
choices-requires-clause-deck t c =
    let f = at_front c.args.game c.args.slots.now no_slot c.in-len1-up.len_at_least in
    let w = f.within in
    let e = c.from.ensures in
    let d = c.requires.deck in
    omega arith

pub divided-requires : goal.divided-requires
divided-requires t c =
    let f = at_front c.args.game c.args.slots.now no_slot c.in-len1-up.len_at_least in
    let a = f.fewer in
    let b = f.less in
    let d = c.requires.deck in
    let e = c.requires.fits in
    (search rules, (omega arith, omega arith))
