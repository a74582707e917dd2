use Rattle.std.proofs.Common.{◌<◌, ℕ, List, arith}
use Rattle.std.specs.Prelude.{slice_index}
use Rattle.std.proofs.lemmas.Option.{slice_get-get_or}
use Rattle.runout_ranges.proofs.CallerLemmas.{member_at}
use Rattle.board_runouts.proofs.plain_ranks.count_mains.Goals as goal

pub bounds-row-from : goal.bounds-row-from
bounds-row-from g c =
    let all : List ℕ = c.args.all.now in
    let i : ℕ = c.loop-ranks.ranks-index in
    let at : slice_index all i < 169 = c.requires.inside (slice_index all i) (member_at all i (slice_index all i) (slice_get-get_or all i 0 c.loop-ranks-test.true)) in
    omega (arith, at, c.from.ensures)
