use Rattle.std.proofs.Common.{◌≡◌, ◌≤◌, ◌+◌, ◌-◌, ◌*◌, drop, ap, sym, ◌∙◌, length, arith}
use Rattle.runout_ranges.specs.Slots.{counts_of}
use Rattle.runout_ranges.specs.Shapes.{slots_of, runouts_of}
use Rattle.runout_ranges.specs.Ways.{ways, binomial}
use Rattle.runout_ranges.proofs.ListingLength.{length_runouts, ways_more, ways_all, ways_above}
use Rattle.runout_ranges.specs.declared.shapes.Receiver.TheVariants.{Board}
use Rattle.runout_ranges.specs.declared.shapes.Slot.{Slot}
use Rattle.runout_ranges.proofs.counting.count_runouts.Goals as goal

abbrev no_slot : Slot
no_slot = record { receiver = Board; count = 0 }

pub returns-in_default : goal.returns-in_default
returns-in_default c =
    let slots = slots_of c.args.shape.now in
    let all : length (runouts_of c.args.shape.now) ≡ ways c.count-left.result (counts_of slots) = length_runouts (counts_of slots) c.args.shape.now.unseen c.rising.ensures.rising ∙ ap (λ n. ways n (counts_of slots)) (sym c.count-left.ensures.value) in
    let more = ways_more slots c.loop-slot.slot-index c.loop-slot.left c.from-count.result c.loop-slot.total (ways c.count-left.result (counts_of slots)) no_slot c.loop-slot-test.true c.from-count.ensures c.loop-slot.invariant.enough c.loop-slot.invariant.product in
    let above : c.loop-slot.total * binomial c.loop-slot.left c.from-count.result ≤ ways c.count-left.result (counts_of slots) =
    ways_above slots (c.loop-slot.slot-index + 1) (c.loop-slot.left - c.from-count.result) (c.loop-slot.total * binomial c.loop-slot.left c.from-count.result) (ways c.count-left.result (counts_of slots)) more.1 more.2 in
    let product : c.loop-slot.total * c.choices.result ≡ c.loop-slot.total * binomial c.loop-slot.left c.from-count.result = ap (λ n. c.loop-slot.total * n) c.choices.ensures in
    λ h. c.in_default.ensures (omega arith)

pub loop-slot-preserved : goal.loop-slot-preserved
loop-slot-preserved c =
    let slots = slots_of c.args.shape.now in
    let more = ways_more slots c.loop-slot.slot-index c.loop-slot.left c.from-count.result c.loop-slot.total (ways c.count-left.result (counts_of slots)) no_slot c.loop-slot-test.true c.from-count.ensures c.loop-slot.invariant.enough c.loop-slot.invariant.product in
    let product : c.in-Some.product ≡ c.loop-slot.total * binomial c.loop-slot.left c.from-count.result = c.in-Some.ensures.1 ∙ ap (λ n. c.loop-slot.total * n) c.choices.ensures in
    record {
      few = omega arith;
      enough = more.1;
      product = ap (λ n. n * ways (c.loop-slot.left - c.from-count.result) (counts_of (drop (c.loop-slot.slot-index + 1) slots))) product ∙ more.2;
    }

pub returns-then-total-limit : goal.returns-then-total-limit
returns-then-total-limit c =
    let all : length (runouts_of c.args.shape.now) ≡ ways c.count-left.result (counts_of (slots_of c.args.shape.now)) = length_runouts (counts_of (slots_of c.args.shape.now)) c.args.shape.now.unseen c.rising.ensures.rising ∙ ap (λ n. ways n (counts_of (slots_of c.args.shape.now))) (sym c.count-left.ensures.value) in
    let whole = ways_all (slots_of c.args.shape.now) c.loop-slot.slot-index c.loop-slot.left c.loop-slot.total (ways c.count-left.result (counts_of (slots_of c.args.shape.now))) c.loop-slot-test.false c.loop-slot.invariant.product in
    λ h. omega arith

pub returns : goal.returns
returns c =
    let all : length (runouts_of c.args.shape.now) ≡ ways c.count-left.result (counts_of (slots_of c.args.shape.now)) = length_runouts (counts_of (slots_of c.args.shape.now)) c.args.shape.now.unseen c.rising.ensures.rising ∙ ap (λ n. ways n (counts_of (slots_of c.args.shape.now))) (sym c.count-left.ensures.value) in
    let whole = ways_all (slots_of c.args.shape.now) c.loop-slot.slot-index c.loop-slot.left c.loop-slot.total (ways c.count-left.result (counts_of (slots_of c.args.shape.now))) c.loop-slot-test.false c.loop-slot.invariant.product in
    (omega arith, whole ∙ sym all)
