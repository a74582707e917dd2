use Rattle.std.proofs.Common.{◌≡◌}
use Rattle.hand_ranges.specs.Boards.{ends_number_below}
use Rattle.range_lines.specs.Walks.{Column, number_in}
use Rattle.hand_ranges.proofs.ends.Ends.tally.Given as goal

abbrev pub invariant-loop-hand : goal.invariant-loop-hand
invariant-loop-hand l = (column : Column) → number_in l.total column ≡ ends_number_below l.self l.count l.hand l.runouts column
