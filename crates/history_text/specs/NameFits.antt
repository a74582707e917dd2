-- What clauses see of a name that the code finds at the beginning of a text.
use Rattle.history_text.specs.Names.{Fit}
use Rattle.history_text.specs.declared.names.NameFit.{NameFit}

-- a name at the beginning of a text
abbrev pub seen : NameFit → Fit
seen found = record { seat = found.seat; length = found.length; rest = found.rest.now }
