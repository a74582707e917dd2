use Rattle.std.specs.Prelude.{slice_range}
use Rattle.run_loop.proofs.HandNumbers.{number_in_order}
use Rattle.run_loop.proofs.hands.number_text.Goals as goal

pub part-requires-clause-ordered : goal.part-requires-clause-ordered
part-requires-clause-ordered c =
    rw c.hand_number-first.ensures (number_in_order (slice_range c.args.bytes.now c.in-Some.head.first c.in-Some.head.end)).ordered

pub part-requires-clause-within : goal.part-requires-clause-within
part-requires-clause-within c =
    rw c.hand_number-first.ensures (number_in_order (slice_range c.args.bytes.now c.in-Some.head.first c.in-Some.head.end)).within
