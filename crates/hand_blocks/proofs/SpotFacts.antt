-- The block of a spot whose runouts are counted, from a tally.
use Rattle.std.proofs.Common.{◌≡◌, ℕ, ◌<◌, ◌≤◌, List, ◌++◌, length, refl, ap, ◌∙◌, arith}
use Rattle.std.specs.List.{flat_map}
use Rattle.card_sets.specs.State.{State}
use Rattle.card_sets.specs.declared.games.Game.{Game}
use Rattle.card_sets.specs.declared.games.Game.TheVariants.{Holdem, Omaha, Omaha8, Stud, Stud8, Razz, Draw5, Lowball27, Triple27}
use Rattle.card_sets.specs.declared.games.Side.{Side}
use Rattle.card_sets.specs.declared.games.Side.TheVariants.{High, Low}
use Rattle.report_sheet.proofs.CallerLemmas.{every_same}
use Rattle.report_sheet.specs.Lines.{line_in}
use Rattle.report_sheet.specs.declared.form.Form.{Form}
use Rattle.hand_blocks.specs.Spots.{alone, counted_block, counted_line}
use Rattle.report_sheet.specs.SpotLines.{every_hand, hand_lines}
use Rattle.showdown_tally.specs.Cells.{Sums, cell_at, units_at}
use Rattle.showdown_tally.specs.Tallies.{Counts, cell_over, units_over, runouts_after}
use Rattle.showdown_tally.specs.declared.cells.Cell.{Cell}

-- equal cells and units give a hand equal lines
hand_lines_same : (form : Form) (game : Game) (all hand : ℕ) (cell cell' : ℕ → Side → Cell) (units units' : ℕ → ℕ) →
    ((side : Side) → cell hand side ≡ cell' hand side) → units hand ≡ units' hand →
    hand_lines form game all cell units hand ≡ hand_lines form game all cell' units' hand
unfolding hand_lines
hand_lines_same form Holdem all hand cell cell' units units' same same_units = rw (same High, same_units) refl
hand_lines_same form Omaha8 all hand cell cell' units units' same same_units = rw (same High, same Low, same_units) refl
hand_lines_same form Stud8 all hand cell cell' units units' same same_units = rw (same High, same Low, same_units) refl
hand_lines_same form Stud all hand cell cell' units units' same same_units = rw (same High, same_units) refl
hand_lines_same form Draw5 all hand cell cell' units units' same same_units = rw (same High, same_units) refl
hand_lines_same form Omaha all hand cell cell' units units' same same_units = rw (same High, same_units) refl
hand_lines_same form Razz all hand cell cell' units units' same same_units = rw (same Low, same_units) refl
hand_lines_same form Lowball27 all hand cell cell' units units' same same_units = rw (same Low, same_units) refl
hand_lines_same form Triple27 all hand cell cell' units units' same same_units = rw (same Low, same_units) refl

-- equal cells and units give some first hands equal lines
every_hand_same : (form : Form) (game : Game) (all n : ℕ) (cell cell' : ℕ → Side → Cell) (units units' : ℕ → ℕ) →
    ((hand : ℕ) (side : Side) → hand < n → cell hand side ≡ cell' hand side) →
    ((hand : ℕ) → hand < n → units hand ≡ units' hand) →
    flat_map (hand_lines form game all cell units) (every_hand n) ≡ flat_map (hand_lines form game all cell' units') (every_hand n)
every_hand_same form game all n cell cell' units units' same same_units =
    every_same (hand_lines form game all cell units) (hand_lines form game all cell' units') n
    (λ hand below. hand_lines_same form game all hand cell cell' units units' (λ side. same hand side below) (same_units hand below))

-- what is written from a tally of all runouts is the block of the spot
pub block_of_counts : (form : Form) (place : ℕ) (state : State) (sums : Sums) → length state.hands ≤ 10 →
    Counts (alone state) (runouts_after state) sums →
    line_in form (counted_line place state.game sums.runouts)
    ++ flat_map (hand_lines form state.game sums.runouts (cell_at sums 0) (units_at sums 0)) (every_hand (length state.hands))
    ≡ counted_block form place state
unfolding counted_block
block_of_counts form place state sums few counts =
    let game = state.game in
    let n = length state.hands in
    let cell = cell_over (alone state) (runouts_after state) 0 in
    let units = units_over (alone state) (runouts_after state) 0 in
    let same = every_hand_same form game sums.runouts n (cell_at sums 0) cell (units_at sums 0) units
    (λ hand side below. counts.cells 0 hand side (omega arith) (omega arith))
    (λ hand below. counts.units 0 hand (omega arith) (omega arith)) in
    ap (λ lines. line_in form (counted_line place game sums.runouts) ++ lines) same
    ∙ ap (λ all. line_in form (counted_line place game all) ++ flat_map (hand_lines form game all cell units) (every_hand n)) counts.runouts
