-- How runouts end, as two counts for each pot: of the high by the set of hands that wins it and whether somebody has a low, and of the
-- low by the set that wins it.
use Rattle.std.specs.Prelude.{◌≡◌, ℕ, ◌+◌, ◌*◌, ◌<◌, ◌^◌, ◌==◌, true, if◌then◌else◌, List, [], length, slice_index, slice_index_or, count_by}
use Rattle.card_sets.specs.Games.{has_side}
use Rattle.card_sets.specs.declared.games.Side.{Side}
use Rattle.card_sets.specs.declared.games.Side.TheVariants.{High, Low}
use Rattle.showdown_tally.specs.Cells.{side_place}
use Rattle.showdown_tally.specs.Showdown.{Showdown}
use Rattle.showdown_tally.specs.Sides.{side_outcome}

-- what is added to the place of a high's set where a set wins the low: nothing where nobody has one
abbrev pub low_mark : ℕ → ℕ
low_mark set = if set == 0 then 0 else 1024

-- the place of a runout among the counts of a side of a pot: the set that wins the side, as the number with the bits of its hands, and
-- on the high side 1024 more where somebody has a low
abbrev pub count_place : Showdown → ℕ → Side → List (List ℕ) → ℕ
count_place deal pot High runout = side_outcome High deal pot runout + low_mark (side_outcome Low deal pot runout)
count_place deal pot Low runout = side_outcome Low deal pot runout

-- the number at a place of the counts of a side of a pot: each has a row, the high's before the low's
abbrev pub count_at : List (List ℕ) → ℕ → Side → ℕ → ℕ
count_at counts pot side place = slice_index (slice_index_or counts (2 * pot + side_place side) []) place

-- the counts are those of some runouts, on the sides that the pots are played for
abbrev pub AreSideCounts : Showdown → List (List (List ℕ)) → List (List ℕ) → Type 0
AreSideCounts deal all counts = (pot place : ℕ) (side : Side) → pot < length deal.pots → has_side side deal.state.game ≡ true → place < 2048
    → count_at counts pot side place ≡ count_by (λ runout. count_place deal pot side runout == place) all

-- the new counts are the old ones and those of some runouts
abbrev pub CountsGrow : Showdown → List (List (List ℕ)) → List (List ℕ) → List (List ℕ) → Type 0
CountsGrow deal all old new = (pot place : ℕ) (side : Side) → pot < length deal.pots → has_side side deal.state.game ≡ true → place < 2048
    → count_at new pot side place ≡ count_at old pot side place + count_by (λ runout. count_place deal pot side runout == place) all

-- the counts have room for a number of runouts more
abbrev pub CountsFit : Showdown → List (List ℕ) → ℕ → Type 0
CountsFit deal counts more = (pot place : ℕ) (side : Side) → pot < length deal.pots → has_side side deal.state.game ≡ true → place < 2048
    → count_at counts pot side place + more < 2 ^ 32
