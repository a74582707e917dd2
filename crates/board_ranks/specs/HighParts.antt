-- What own cards and a board are worth as a high, in the games with a board: by ranks alone, and as a flush.
use Rattle.std.specs.Prelude.{ℕ, if◌then◌else◌, nat_lt, List, map}
use Rattle.card_sets.specs.Games.{allowed}
use Rattle.card_sets.specs.declared.games.Game.{Game}
use Rattle.card_sets.specs.declared.games.Game.TheVariants.{Holdem, Omaha, Omaha8, Stud, Stud8, Razz, Draw5, Lowball27, Triple27}
use Rattle.rank_high.specs.High.{high, value_of, greatest_of}
use Rattle.rank_high.specs.Parts.{of_suit, plain_high}

-- the number of the best of the fives that the game allows
unfoldable pub high_number : Game → List ℕ → List ℕ → ℕ
high_number game own board = value_of (greatest_of (map high (allowed game own board)))

-- and if there were no flushes
unfoldable pub plain_number : Game → List ℕ → List ℕ → ℕ
plain_number game own board = value_of (greatest_of (map plain_high (allowed game own board)))

-- the number of the best of one suit, 0 where there are too few cards of it
abbrev pub suited_number : Game → List ℕ → List ℕ → ℕ → ℕ
suited_number game own board suit = high_number game (of_suit own suit) (of_suit board suit)

-- how many own cards of a suit a flush may have, by how many there are
abbrev pub flush_part : Game → ℕ → ℕ
flush_part Holdem own = own
flush_part Omaha own = if nat_lt own 2 then 0 else 2
flush_part Omaha8 own = if nat_lt own 2 then 0 else 2
flush_part Stud own = own
flush_part Stud8 own = own
flush_part Razz own = own
flush_part Draw5 own = own
flush_part Lowball27 own = own
flush_part Triple27 own = own
