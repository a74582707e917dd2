use Rattle.std.proofs.Common.{ap, arith}
use Rattle.std.specs.Prelude.{slice_index}
use Rattle.board_ranks.proofs.ten_threes.three_number.Goals as goal

pub returns : goal.returns
returns c = ap (slice_index c.args.values.now) (omega (arith, c.rank.ensures.value, c.rank-2.ensures.value, c.rank-3.ensures.value, c.from-lowest.ensures, c.from-middle.ensures, c.from-highest.ensures))
