-- What is known on the later streets of an accepted hand.
use Rattle.std.specs.Prelude.{◌≡◌, Some}
use Rattle.card_sets.specs.State.{state_of}
use Rattle.runout_ranges.specs.MoreKnown.{KnowsNoLess}
use Rattle.showdown_tally.specs.declared.table.Table.{Table}
use Rattle.hand_verdict.specs.declared.streets.StreetState.{StreetState}

-- the table of a street, where there is one, knows no less than that of the all-in
abbrev pub KnowsNoLessThan : Table → StreetState → Type 0
KnowsNoLessThan table state = (later : Table) → state.table ≡ Some later → KnowsNoLess (state_of table.known) (state_of later.known)
