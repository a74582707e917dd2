use Rattle.std.proofs.Common.{◌≡◌, ◌+◌, ◌*◌, ◌^◌, ◌<◌, ◌≤◌, length, map, slice_index}
use Rattle.rank_high.specs.High.{digits_from}
use Rattle.rank_high.specs.ByRanks.{falling, held, except}
use Rattle.rank_low.proofs.low_ranks.three_others.Given as goal

abbrev pub invariant-loop-rank : goal.invariant-loop-rank
invariant-loop-rank l = record {
  so_far : l.taken ≡ length (falling (except l.pair (held (slice_index l.counts) 0)) l.rank);
  few : l.taken ≤ 3;
  whole : l.number ≡ 16 * digits_from l.taken (map (λ r. r + 1) (falling (except l.pair (held (slice_index l.counts) 0)) l.rank));
  small : l.number < 16 ^ (l.taken + 1);
}
