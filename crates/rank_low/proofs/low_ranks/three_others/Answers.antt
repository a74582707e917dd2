use Rattle.std.proofs.Common.{◌+◌, ◌*◌, ◌∙◌, ap, sym, arith, length, map, slice_index}
use Rattle.rank_high.specs.High.{digits_from}
use Rattle.rank_low.proofs.LowestPair.{others_below, others_more, others_as, others_end}
use Rattle.rank_low.proofs.low_ranks.three_others.Goals as goal
use Rattle.rank_low.proofs.low_ranks.three_others.Goals.{then-counts-from-gt0+else-taken-eq3, else-counts-from-gt0}

pub loop-rank-preserved : goal.loop-rank-preserved
loop-rank-preserved c = elim c.if-counts-from-gt0.branch [
  | then-counts-from-gt0+else-taken-eq3 w ↦
      let i = c.loop-rank.invariant in
      let m = others_more (slice_index c.args.counts.now) c.args.pair c.loop-rank.rank c.loop-rank.taken c.loop-rank.number c.from.result w.from-then-counts-from-gt0.result (omega arith) (omega arith) (omega arith) c.if-rank-pair.false w.if-counts-from-gt0.true (omega (arith, w.if-taken-eq3.false)) i.so_far i.whole i.small in
      record {
        so_far = w.taken-is ∙ m.0;
        few = omega (arith, w.taken-is, w.if-taken-eq3.false, i.few);
        whole = w.number-is ∙ m.1 ∙ ap (λ k. 16 * digits_from k (map (λ r. r + 1) (others_below (slice_index c.args.counts.now) c.args.pair (c.loop-rank.rank + 1)))) (sym w.taken-is);
        small = rw (w.number-is, w.taken-is) m.2;
      }
  | else-counts-from-gt0 w ↦
      let i = c.loop-rank.invariant in
      let same_list = others_as (slice_index c.args.counts.now) c.args.pair c.loop-rank.rank c.from.result (omega arith) (omega (arith, w.if-counts-from-gt0.false)) in
      record {
        so_far = w.taken-is ∙ i.so_far ∙ ap length same_list;
        few = omega (arith, w.taken-is, i.few);
        whole = w.number-is ∙ i.whole ∙ ap (λ l. 16 * digits_from c.loop-rank.taken (map (λ r. r + 1) l)) same_list ∙ ap (λ k. 16 * digits_from k (map (λ r. r + 1) (others_below (slice_index c.args.counts.now) c.args.pair (c.loop-rank.rank + 1)))) (sym w.taken-is);
        small = rw (w.number-is, w.taken-is) i.small;
      }
]

pub returns : goal.returns
returns c =
    let i = c.loop-rank.invariant in
    others_end (slice_index c.args.counts.now) c.args.pair c.loop-rank.rank c.loop-rank.taken c.loop-rank.number (omega arith) (omega (arith, i.few, c.if-taken-lt3.false)) i.so_far i.whole
