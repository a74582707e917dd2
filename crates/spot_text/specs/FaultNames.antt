-- The names of the faults of a spot line.
use Rattle.std.specs.Prelude.{ℕ, List, codes}
use Rattle.spot_text.specs.declared.faults.SpotFault.{SpotFault}
use Rattle.spot_text.specs.declared.faults.SpotFault.TheVariants.{UnknownWord, BadCard, TwiceCard, HandSize, BoardSize, PlayerCount, DeckShort}

-- the name of a fault, without what it carries
abbrev pub fault_name : SpotFault → List ℕ
fault_name UnknownWord = codes "UnknownWord"
fault_name BadCard = codes "BadCard"
fault_name (TwiceCard card) = codes "TwiceCard"
fault_name HandSize = codes "HandSize"
fault_name BoardSize = codes "BoardSize"
fault_name PlayerCount = codes "PlayerCount"
fault_name DeckShort = codes "DeckShort"
