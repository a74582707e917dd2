use Rattle.std.proofs.Common.{arith}
use Rattle.board_runouts.proofs.flushes.Flushes.clear.Goals as goal

pub returns : goal.returns
returns c = λ deal.
    let was = c.requires in
    record {
      past = record { places = was.places; each = λ i flush at. let l = was.each i flush at in omega arith };
      best = λ i flush at same. absurd (let l = was.each i flush at in omega arith);
    }
