-- The block of a spot that is counted, from its tally.
use Rattle.std.proofs.Common.{◌≡◌, ℕ, ◌*◌, ◌<◌, ◌≤◌, false, ◌++◌, length, refl, sym, ap, ◌∙◌, append-nil, arith}
use Rattle.std.specs.List.{flat_map}
use Rattle.card_sets.specs.declared.games.Game.TheVariants.{Holdem}
use Rattle.card_sets.specs.declared.games.Side.{Side}
use Rattle.card_sets.specs.declared.games.Side.TheVariants.{High}
use Rattle.runout_ranges.specs.declared.limits.TheConstants.{RUNOUT_MAX}
use Rattle.report_sheet.proofs.CallerLemmas.{every_same, then_lines}
use Rattle.report_sheet.specs.Lines.{line_in}
use Rattle.report_sheet.specs.Sheets.{Written, with_line, with_lines}
use Rattle.report_sheet.specs.SpotLines.{every_hand, ev_line, hand_lines, side_line}
use Rattle.report_sheet.specs.declared.form.Form.{Form}
use Rattle.showdown_tally.specs.declared.cells.Cell.{Cell}
use Rattle.range_lines.specs.declared.tally.RangeTally.{RangeTally}
use Rattle.range_lines.specs.Blocks.{cell_of, counted_block, counted_line, known_block, no_cell, tally_block, tally_cell, tally_ends, tally_units}
use Rattle.range_lines.specs.Choices.{choices, full_weight, runouts_of_choice, are_above, has_no_choice}
use Rattle.range_lines.specs.Counted.{IsTallyOf, IsSmall, units_of}
use Rattle.range_lines.specs.RangeSpot.{Ranges}

-- the lines of a player are one of his side and one of what he may expect
pub two_lines : (form : Form) (all : ℕ) (cell : ℕ → Side → Cell) (units : ℕ → ℕ) (hand : ℕ) →
    line_in form (side_line all hand High (cell hand High)) ++ line_in form (ev_line all hand (units hand)) ≡ hand_lines form Holdem all cell units hand
unfolding hand_lines
two_lines form all cell units hand = ap (λ line. line ++ line_in form (ev_line all hand (units hand))) (sym (append-nil (line_in form (side_line all hand High (cell hand High)))))

-- equal cells and units give a player equal lines
lines_same : (form : Form) (all hand : ℕ) (cell cell' : ℕ → Side → Cell) (units units' : ℕ → ℕ) → cell hand High ≡ cell' hand High → units hand ≡ units' hand →
    hand_lines form Holdem all cell units hand ≡ hand_lines form Holdem all cell' units' hand
unfolding hand_lines
lines_same form all hand cell cell' units units' same same_units = rw (same, same_units) refl

pub block_of_tally : (form : Form) (place : ℕ) (spot : Ranges) (tally : RangeTally) → IsTallyOf spot tally → tally_block form place (length spot.ranges) tally ≡ counted_block form place spot
unfolding tally_block counted_block
block_of_tally form place spot tally is =
    let text = λ (r w hand : ℕ). hand_lines form Holdem (r * w) (tally_ends tally) (tally_units tally) hand in
    let all = runouts_of_choice spot * full_weight spot.ranges in
    let ends : (hand : ℕ) → hand < length spot.ranges → tally_ends tally hand High ≡ cell_of spot hand High = λ hand below.
    let cell = is.ends hand no_cell below in
    ap (λ n. record { win = n; tie = (tally_cell tally hand).tie; lose = (tally_cell tally hand).lose }) cell.wins
    ∙ ap (λ n. record { win = (cell_of spot hand High).win; tie = n; lose = (tally_cell tally hand).lose }) cell.ties
    ∙ ap (λ n. record { win = (cell_of spot hand High).win; tie = (cell_of spot hand High).tie; lose = n }) cell.losses in
    let hands = every_same (hand_lines form Holdem all (tally_ends tally) (tally_units tally)) (hand_lines form Holdem all (cell_of spot) (units_of spot)) (length spot.ranges)
    (λ hand below. lines_same form all hand (tally_ends tally) (cell_of spot) (tally_units tally) (units_of spot) (ends hand below) (is.given hand below)) in
    ap (λ n. line_in form (counted_line place n tally.runouts tally.weight) ++ flat_map (text tally.runouts tally.weight) (every_hand (length spot.ranges))) is.count
    ∙ ap (λ r. line_in form (counted_line place (length (choices spot.ranges)) r tally.weight) ++ flat_map (text r tally.weight) (every_hand (length spot.ranges))) is.each
    ∙ ap (λ w. line_in form (counted_line place (length (choices spot.ranges)) (runouts_of_choice spot) w) ++ flat_map (text (runouts_of_choice spot) w) (every_hand (length spot.ranges))) is.total
    ∙ ap (λ lines. line_in form (counted_line place (length (choices spot.ranges)) (runouts_of_choice spot) (full_weight spot.ranges)) ++ lines) hands

-- some of the players have small numbers where all of them have
pub small_less : (tally : RangeTally) (n m : ℕ) → m ≤ n → IsSmall tally n → IsSmall tally m
small_less tally n m few small = record {
  some = small.some;
  all = small.all;
  wins = λ hand d below. small.wins hand d (omega (arith, below, few));
  ties = λ hand d below. small.ties hand d (omega (arith, below, few));
  losses = λ hand d below. small.losses hand d (omega (arith, below, few));
  given = λ hand below. small.given hand (omega (arith, below, few));
}

-- the two lines of a player, one after the other
pub then_hand : (w w' w'' : Written) (tally : RangeTally) (all hand win tie lose units : ℕ) →
    win ≡ (tally_cell tally hand).win → tie ≡ (tally_cell tally hand).tie → lose ≡ (tally_cell tally hand).lose → units ≡ tally_units tally hand →
    w' ≡ with_line w (side_line all hand High (record { win = win; tie = tie; lose = lose })) → w'' ≡ with_line w' (ev_line all hand units) →
    w'' ≡ with_lines w (hand_lines w.form Holdem all (tally_ends tally) (tally_units tally) hand)
then_hand w w' w'' tally all hand win tie lose units e f g u before more =
    let side : w' ≡ with_line w (side_line all hand High (tally_ends tally hand High)) =
    before ∙ ap (λ n. with_line w (side_line all hand High (record { win = n; tie = tie; lose = lose }))) e
    ∙ ap (λ n. with_line w (side_line all hand High (record { win = (tally_cell tally hand).win; tie = n; lose = lose }))) f
    ∙ ap (λ n. with_line w (side_line all hand High (record { win = (tally_cell tally hand).win; tie = (tally_cell tally hand).tie; lose = n }))) g in
    let form : w'.form ≡ w.form = ap (λ (v : Written). v.form) before in
    let ev : w'' ≡ with_lines w' (line_in w.form (ev_line all hand (tally_units tally hand))) =
    more ∙ ap (λ n. with_line w' (ev_line all hand n)) u ∙ ap (λ (f : Form). with_lines w' (line_in f (ev_line all hand (tally_units tally hand)))) form in
    then_lines w w' w'' (line_in w.form (side_line all hand High (tally_ends tally hand High))) (line_in w.form (ev_line all hand (tally_units tally hand))) side ev
    ∙ ap (λ lines. with_lines w lines) (two_lines w.form all (tally_ends tally) (tally_units tally) hand)

pub block_counted : (form : Form) (place number : ℕ) (spot : Ranges) (tally : RangeTally) (count : ℕ) → are_above RUNOUT_MAX spot ≡ false → has_no_choice spot ≡ false → IsTallyOf spot tally →
    count ≡ length spot.ranges → tally_block form place count tally ≡ known_block form place number spot
unfolding known_block
block_counted form place number spot tally count above none is all = ap (λ n. tally_block form place n tally) all ∙ block_of_tally form place spot tally is ∙ sym (rw (above, none) refl)
