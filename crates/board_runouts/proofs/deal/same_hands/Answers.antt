use Rattle.std.proofs.lemmas.Slice.Eq.{slice_eq-Decides, bytes_eq-Decides}
use Rattle.board_runouts.proofs.deal.same_hands.Goals as goal

pub returns : goal.returns
returns c = (slice_eq-Decides bytes_eq-Decides c.args.a.now c.args.b.now c.eq.result c.eq.ensures).0
