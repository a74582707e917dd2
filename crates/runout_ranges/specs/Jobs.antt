-- Which known states have an equity that can be counted.
use Rattle.std.specs.Prelude.{ℕ, ◌<◌, List, length, sum}
use Rattle.card_sets.specs.State.{State}
use Rattle.runout_ranges.specs.Runouts.{runouts}
use Rattle.runout_ranges.specs.Slots.{slots, unseen, counts_of}
use Rattle.runout_ranges.specs.declared.limits.TheConstants.{RUNOUT_MAX}

-- all runouts of a deal, in order
abbrev pub runouts_after : State → List (List (List ℕ))
runouts_after state = runouts (unseen state) (counts_of (slots state))

-- fewer cards may come than the board and the hands lack
abbrev pub IsDeckShort : State → Type 0
IsDeckShort state = length (unseen state) < sum (counts_of (slots state))

-- there are more runouts than may be counted
abbrev pub IsAboveLimit : State → Type 0
IsAboveLimit state = RUNOUT_MAX < length (runouts_after state)
