use Rattle.std.proofs.Common.{length}
use Rattle.hand_ranges.proofs.boards.+add_boards.Given as goal

abbrev pub decreases-add_boards : goal.decreases-add_boards
decreases-add_boards l = length l.rest
