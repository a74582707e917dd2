-- The lines of a spot and of its hands. The columns win, tie and lose and the expected value are those of poker-eval; the
-- words of the lines are this project's.
use Rattle.std.specs.Prelude.{ℕ, zero, suc, ◌+◌, List, [], ◌∷◌, ◌++◌, codes, decimal}
use Rattle.std.specs.List.{flat_map}
use Rattle.std.specs.Option.{option_map_or}
use Rattle.card_sets.specs.Games.{game_word, sides_of}
use Rattle.card_sets.specs.declared.games.Game.{Game}
use Rattle.card_sets.specs.declared.games.Side.{Side}
use Rattle.card_sets.specs.declared.games.Side.TheVariants.{High, Low}
use Rattle.runout_ranges.specs.declared.limits.TheConstants.{RUNOUT_MAX}
use Rattle.showdown_tally.specs.declared.cells.Cell.{Cell}
use Rattle.report_sheet.specs.Lines.{Line, plain, line_in}
use Rattle.report_sheet.specs.Numbers.{expected, share}
use Rattle.report_sheet.specs.declared.form.Form.{Form}

-- how a side is written
abbrev pub side_word : Side → List ℕ
side_word High = codes "high"
side_word Low = codes "low"

-- the hands numbered below n, rising
abbrev pub every_hand : ℕ → List ℕ
every_hand zero = []
every_hand (suc n) = every_hand n ++ n ∷ []

-- the first words of a line of a spot; spots are numbered from 1
unfoldable pub spot_name : ℕ → List (List ℕ)
spot_name place = codes "spot" ∷ decimal place ∷ []

-- the first words of a line of a hand; hands are written from 1
unfoldable pub hand_name : ℕ → List (List ℕ)
hand_name hand = codes "hand" ∷ decimal (hand + 1) ∷ []

-- a side, and how all runouts end there
unfoldable pub side_columns : ℕ → Side → Cell → List (List ℕ)
side_columns all side cell =
    side_word side ∷ [] ++ share (codes "win") cell.win all ++ share (codes "tie") cell.tie all
    ++ share (codes "lose") cell.lose all

-- how all runouts end for a hand on a side, as `hand 1 high win 42 95.45 tie 0 0.00 lose 2 4.55`
unfoldable pub side_line : ℕ → ℕ → Side → Cell → Line
side_line all hand side cell = plain (hand_name hand ++ side_columns all side cell)

-- what a hand may expect, as `hand 1 ev 0.955`
unfoldable pub ev_line : ℕ → ℕ → ℕ → Line
ev_line all hand units = plain (hand_name hand ++ codes "ev" ∷ expected units all ∷ [])

-- the lines of a hand: one for each side that the game is played for, the high first, and then what it may expect; given are
-- the number of all runouts, how they end for each hand on a side, and the units that they give each hand
unfoldable pub hand_lines : Form → Game → ℕ → (ℕ → Side → Cell) → (ℕ → ℕ) → ℕ → List ℕ
hand_lines form game all cell units hand =
    flat_map (λ played. option_map_or (λ side.
    line_in form (side_line all hand side (cell hand side))) played []) (sides_of game)
    ++ line_in form (ev_line all hand (units hand))

-- that there are more runouts than are counted
unfoldable pub refused_words : List (List ℕ)
refused_words = codes "refused" ∷ codes "above" ∷ decimal RUNOUT_MAX ∷ codes "runouts" ∷ []

-- a spot that has too many runouts to be counted, as `spot 1 stud refused above 200000000 runouts`
unfoldable pub refused_line : ℕ → Game → Line
refused_line place game = plain (spot_name place ++ game_word game ∷ [] ++ refused_words)

-- the first words of the line of a spot that isn't well written, with the number of the line that was read, as
-- `spot 2 rejected line 3`
unfoldable pub rejected_name : ℕ → ℕ → List (List ℕ)
rejected_name place number =
    spot_name place ++ codes "rejected" ∷ codes "line" ∷ decimal number ∷ []
