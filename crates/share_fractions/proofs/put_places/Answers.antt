use Rattle.std.proofs.Common.{arith, ◌∙◌}
use Rattle.share_fractions.proofs.TextPieces.{behind_both, digits_more}
use Rattle.share_fractions.proofs.put_places.Goals as goal

pub loop-place-preserved : goal.loop-place-preserved
loop-place-preserved c = record {
  next = omega arith;
  written =
      digits_more _ _ _ _ _ c.loop-place-test.true c.digit.ensures c.put_byte-end.ensures.written
      ∙ c.loop-place.invariant.written;
  behind =
      behind_both _ _ _ c.loop-place.end _ c.loop-place.invariant.behind c.put_byte-end.ensures.behind (omega arith);
}
