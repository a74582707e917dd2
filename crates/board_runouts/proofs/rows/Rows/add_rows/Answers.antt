use Rattle.std.proofs.Common.{[], ◌∷◌, List, length, length-append, ap, arith}
use Rattle.board_runouts.specs.declared.row.Row.{Row}
use Rattle.board_runouts.proofs.RowSets.{front_stood}
use Rattle.board_runouts.proofs.rows.Rows.add_rows.Goals as goal

pub loop-preserved : goal.loop-preserved
loop-preserved c =
    let was = c.loop.invariant in
    let size = was.count in
    let items : List Row = c.loop.self.rows.items in
    record {
      count = omega (arith, ap length c.push_reserved.ensures.items, length-append items (c.none.result ∷ []));
      kept = λ i row l at. was.kept i row l (front_stood c.push_reserved.new.self.items items (c.none.result ∷ []) i row c.push_reserved.ensures.items (omega arith) at);
    }
