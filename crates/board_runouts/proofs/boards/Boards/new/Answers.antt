use Rattle.std.proofs.Common.{refl, sym, ◌∙◌}
use Rattle.showdown_tally.specs.Deals.{deal_of}
use Rattle.board_runouts.proofs.boards.Boards.new.Goals as goal

pub invariant_of-result : goal.invariant_of-result
invariant_of-result c = record {
  same = refl;
  all = c.empty.ensures ∙ sym c.none-spot.ensures;
  right = c.in_ok-rows.ensures (deal_of c.none-spot.result.table);
  coded = c.in_ok-codes.ensures (deal_of c.none-spot.result.table);
  best = c.in_ok-flushes.ensures (deal_of c.none-spot.result.table);
}
