-- The numbers that values are kept as.
use Rattle.std.specs.Prelude.{ℕ, ◌-◌, ◌^◌, List}
use Rattle.card_sets.specs.declared.games.Game.{Game}
use Rattle.card_sets.specs.declared.games.Game.TheVariants.{Holdem, Omaha, Omaha8, Stud, Stud8, Razz, Draw5, Lowball27, Triple27}
use Rattle.card_sets.specs.declared.games.Side.{Side}
use Rattle.card_sets.specs.declared.games.Side.TheVariants.{High, Low}
use Rattle.rank_high.specs.High.{value_of}
use Rattle.rank_low.specs.Low.{ace_number}

-- a low's number turned round, so that the better low has the greater
abbrev pub turned : ℕ → ℕ
turned n = 2 ^ 32 - 1 - n

-- the number that a value of a side is kept as: greater is better
abbrev pub side_number : Side → Game → List ℕ → ℕ
side_number High game value = value_of value
side_number Low Lowball27 value = turned (value_of value)
side_number Low Triple27 value = turned (value_of value)
side_number Low Holdem value = turned (ace_number value)
side_number Low Omaha value = turned (ace_number value)
side_number Low Omaha8 value = turned (ace_number value)
side_number Low Stud value = turned (ace_number value)
side_number Low Stud8 value = turned (ace_number value)
side_number Low Razz value = turned (ace_number value)
side_number Low Draw5 value = turned (ace_number value)
