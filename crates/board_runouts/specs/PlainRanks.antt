-- Ranks of pairs of last cards that are counted by themselves: 13 times that of the lower card, and that of the higher one.
use Rattle.std.specs.Prelude.{◌≡◌, ℕ, ◌+◌, ◌<◌, ◌==◌, true, List, length, slice_get, slice_index, Some}
use Rattle.std.specs.List.{count_by}
use Rattle.card_sets.specs.Games.{has_side}
use Rattle.card_sets.specs.declared.games.Side.{Side}
use Rattle.showdown_tally.specs.Showdown.{Showdown}
use Rattle.showdown_tally.specs.SideCounts.{count_at}
use Rattle.board_runouts.specs.Fields.{code_of, ends_of, field}
use Rattle.board_runouts.specs.KeptRows.{row_place}
use Rattle.board_runouts.specs.declared.codes.Codes.{Codes}
use Rattle.board_runouts.specs.declared.row.Row.{Row}

-- ranks have a one in the field of a code
abbrev pub HasCode : Codes → ℕ → Type 0
HasCode codes ranks = slice_index codes.adds ranks ≡ field (code_of (slice_index codes.adds ranks))

-- where that code is counted on a side of a pot
abbrev pub code_end : Codes → ℕ → Side → ℕ → ℕ
code_end codes pot side ranks = slice_index (ends_of pot side codes.ends) (code_of (slice_index codes.adds ranks))

-- the new counts of all pots are the old ones and those of each of some ranks, where their codes are counted
abbrev pub CodesGrow : Showdown → Codes → List ℕ → List (List ℕ) → List (List ℕ) → Type 0
CodesGrow deal codes all old new = (pot place : ℕ) (side : Side) → pot < length deal.pots → has_side side deal.state.game ≡ true → place < 2048
    → count_at new pot side place ≡ count_at old pot side place + count_by (λ ranks. code_end codes pot side ranks == place) all

-- the new counts of all pots are the old ones and those of each of some ranks, where the row of each pot counts them
abbrev pub RowsGrow : Showdown → List Row → List ℕ → List (List ℕ) → List (List ℕ) → Type 0
RowsGrow deal rows all old new = (pot place : ℕ) (side : Side) (row : Row) → pot < length deal.pots → has_side side deal.state.game ≡ true → slice_get rows pot ≡ Some row → place < 2048
    → count_at new pot side place ≡ count_at old pot side place + count_by (λ ranks. row_place row side ranks == place) all

-- the new counts of the high of one pot are the old ones and those of each of some ranks, where its row counts them
abbrev pub MainsGrow : Row → List ℕ → List ℕ → List ℕ → Type 0
MainsGrow row all old new = (place : ℕ) → place < 2048 → slice_index new place ≡ slice_index old place + count_by (λ ranks. slice_index row.mains ranks == place) all
