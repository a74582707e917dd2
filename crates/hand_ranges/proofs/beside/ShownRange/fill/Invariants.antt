use Rattle.std.proofs.Common.{◌≡◌, take}
use Rattle.hand_ranges.specs.Boards.{shown_of}
use Rattle.hand_ranges.proofs.beside.ShownRange.fill.Given as goal

abbrev pub invariant-loop-w : goal.invariant-loop-w
invariant-loop-w l = l.self ≡ shown_of l.full (take l.w-index l.range)
