use Rattle.std.proofs.Common.{suc, ◌-◌, length}
use Rattle.showdown_tally.specs.Showdown.{Showdown}
use Rattle.board_runouts.specs.Codes.{AreAllCodes}
use Rattle.board_runouts.proofs.coded_rows.CodedRows.reach.Given as goal

abbrev pub invariant-loop-self : goal.invariant-loop-self
invariant-loop-self l = (deal : Showdown) → AreAllCodes deal l.fn.self.list.items → AreAllCodes deal l.self.list.items

abbrev pub decreases-loop-self : goal.decreases-loop-self
decreases-loop-self l = suc l.place - length l.self.list.items
