use Rattle.std.proofs.Common.{◌≡◌, length}
use Rattle.board_ranks.proofs.SieveLists.{ArePut}
use Rattle.board_ranks.proofs.sieve.part_pairs.Given as goal

abbrev pub invariant-loop-place : goal.invariant-loop-place
invariant-loop-place l = record {
  put : ArePut l.suits l.pairs l.place l.used l.plain l.flush l.before;
  plain_size : length l.plain ≡ 1326;
  flush_size : length l.flush ≡ 1326;
  before_size : length l.before ≡ 1327;
}
