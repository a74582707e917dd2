use Rattle.std.proofs.Common.{length, ap, arith}
use Rattle.run_loop.proofs.reading.Input.text_of.Goals as goal

pub slice_bounds-result-end : goal.slice_bounds-result-end
slice_bounds-result-end c =
    let w = c.requires.unit.1.within in let e = ap length c.held.ensures.bytes in omega arith
