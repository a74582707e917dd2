-- The lines of a hand after its verdict: its all-in, how all runouts of it end, and what each hand of the table may expect.
-- The columns are those of a spot.
use Rattle.std.specs.Prelude.{ℕ, Bool, if◌then◌else◌, nat_lt, List, [], ◌∷◌, ◌++◌, length, sum, codes, decimal, slice_index, unwrap_or}
use Rattle.std.specs.List.{flat_map}
use Rattle.std.specs.Option.{option_map_or}
use Rattle.card_sets.specs.Games.{sides_of}
use Rattle.card_sets.specs.declared.games.Game.{Game}
use Rattle.card_sets.specs.declared.games.Side.{Side}
use Rattle.hand_verdict.specs.declared.verdicts.AllIn.{AllIn}
use Rattle.hand_verdict.specs.declared.verdicts.AllIn.TheVariants.{None, Unknown, Known}
use Rattle.hand_verdict.specs.declared.verdicts.HandAudit.{HandAudit}
use Rattle.hand_verdict.specs.declared.verdicts.HandAudit.TheVariants.{Rejected, Accepted}
use Rattle.hand_verdict.specs.declared.settlement.Settlement.{Settlement}
use Rattle.card_sets.specs.declared.streets.Street.{Street}
use Rattle.runout_ranges.specs.Slots.{unseen, slots, counts_of}
use Rattle.showdown_tally.specs.Deals.{deal_of}
use Rattle.showdown_tally.specs.Showdown.{Showdown, eligible_in}
use Rattle.showdown_tally.specs.Tallies.{runouts_after}
use Rattle.showdown_tally.specs.declared.cells.Cell.{Cell}
use Rattle.even_luck.specs.Seats.{Seated}
use Rattle.hand_blocks.specs.Hands.{name_text, verdict_block}
use Rattle.report_sheet.specs.Lines.{Line, plain, named, line_in}
use Rattle.runout_ranges.specs.declared.limits.TheConstants.{RUNOUT_MAX}
use Rattle.report_sheet.specs.SpotLines.{every_hand, refused_words, side_columns}
use Rattle.report_sheet.specs.Numbers.{expected, money}
use Rattle.hand_blocks.specs.Words.{street_word}
use Rattle.report_sheet.specs.declared.form.Form.{Form}
-- what the lines go by
pub use Rattle.even_luck.specs.Figures.{Figures, every_pot, expected_units, full_figures, given_to, gross_of, tally_figures}

-- the name of a hand of the table, whose seats are given hand by hand
abbrev pub player_name : Seated → List ℕ → ℕ → List ℕ
player_name names seats hand = name_text names (slice_index seats hand)

-- the first words of a line of a pot; pots are numbered from 0
unfoldable pub pot_name : ℕ → List (List ℕ)
pot_name k = codes "pot" ∷ decimal k ∷ []

-- how all runouts end for a hand on a side of a pot, as `pot 0 high win 35 83.33 tie 0 0.00 lose 7 16.67 carl`
unfoldable pub pot_side_line : ℕ → ℕ → List ℕ → Side → Cell → Line
pot_side_line all k name side cell = named (pot_name k ++ side_columns all side cell) name

-- what part of a pot a hand may expect, as `pot 0 ev 0.833 carl`
unfoldable pub pot_ev_line : ℕ → ℕ → List ℕ → ℕ → Line
pot_ev_line all k name units = named (pot_name k ++ codes "ev" ∷ expected units all ∷ []) name

-- the lines of a hand in a pot: one for each side that the game is played for, the high first, and then what it may expect
unfoldable pub pot_hand_lines : Form → Game → Figures → ℕ → List ℕ → ℕ → List ℕ
pot_hand_lines form game figures k name hand =
    flat_map (λ played. option_map_or (λ side.
    line_in form (pot_side_line figures.all k name side (figures.cell k hand side))) played [])
    (sides_of game)
    ++ line_in form (pot_ev_line figures.all k name (figures.units k hand))

-- the lines of a hand of the table in a pot
abbrev pub player_lines : Form → Game → Figures → Seated → List ℕ → ℕ → ℕ → List ℕ
player_lines form game figures names seats k hand =
    pot_hand_lines form game figures k (player_name names seats hand) hand

-- the lines of a pot: those of each hand that is eligible in it, where two or more are
unfoldable pub pot_equity : Form → Showdown → Figures → Seated → List ℕ → ℕ → List ℕ
pot_equity form deal figures names seats k =
    if nat_lt 1 (length (eligible_in deal k))
    then flat_map (player_lines form deal.state.game figures names seats k) (eligible_in deal k)
    else []

-- the lines of all pots
abbrev pub pot_equities : Form → Showdown → Figures → Seated → List ℕ → List ℕ
pot_equities form deal figures names seats =
    flat_map (pot_equity form deal figures names seats) (every_pot (length deal.pots))

-- that as a line, as `expect 100.83 carl`
unfoldable pub expect_line : Bool → List ℕ → ℕ → Line
expect_line hundredths name units = named (codes "expect" ∷ money hundredths units ∷ []) name

-- what a hand of the table may expect
abbrev pub hand_expect : Form → Settlement → Seated → List ℕ → Showdown → Figures → ℕ → List ℕ
hand_expect form s names seats deal figures hand =
    line_in form (expect_line s.hundredths (player_name names seats hand)
    (expected_units figures.all (given_to s.pots figures hand (length deal.pots))))

-- the first line of an all-in that is counted, as `all-in turn runouts 42`
unfoldable pub all_in_line : Game → Street → ℕ → Line
all_in_line game street all =
    plain (codes "all-in" ∷ unwrap_or (street_word game street) [] ∷ codes "runouts"
    ∷ decimal all ∷ [])

-- an all-in that is counted: its street, each pot with its hands, and then what each hand of the table may expect
unfoldable pub counted_all_in : Form → Settlement → Seated → List ℕ → Street → Showdown →
    Figures → List ℕ
counted_all_in form s names seats street deal figures =
    line_in form (all_in_line deal.state.game street figures.all)
    ++ pot_equities form deal figures names seats
    ++ flat_map (hand_expect form s names seats deal figures) (every_hand (length deal.state.hands))

-- an all-in that is refused since fewer cards may come than are lacking, or since it has too many runouts
unfoldable pub short_line : Line
short_line = plain (codes "all-in" ∷ codes "refused" ∷ codes "DeckShort" ∷ [])

unfoldable pub above_line : Line
above_line = plain (codes "all-in" ∷ [] ++ refused_words)

-- an all-in with known cards: it is refused where fewer cards may come than are lacking, or where it has too many runouts, or
-- else counted
unfoldable pub known_all_in : Form → Settlement → Seated → List ℕ → Street → Showdown → List ℕ
known_all_in form s names seats street deal =
    if nat_lt (length (unseen deal.state)) (sum (counts_of (slots deal.state)))
    then line_in form short_line
    else (if nat_lt RUNOUT_MAX (length (runouts_after deal.state)) then line_in form above_line
    else counted_all_in form s names seats street deal (full_figures deal))

-- the all-in of a hand in which no line departs
abbrev pub all_in_block : Form → Settlement → Seated → AllIn → List ℕ
all_in_block form s names None = line_in form (plain (codes "all-in" ∷ codes "none" ∷ []))
all_in_block form s names Unknown = line_in form (plain (codes "all-in" ∷ codes "unknown" ∷ []))
all_in_block form s names (Known street seats table) =
    known_all_in form s names seats street (deal_of table)

-- the lines of a hand after its verdict, where its equity is asked for; a hand with a line that departs has none
abbrev pub equity_block : Form → Bool → HandAudit → List ℕ
equity_block form asked (Rejected line cause hundredths) = []
equity_block form asked (Accepted settlement all_in names players) =
    if asked then all_in_block form settlement names all_in else []

-- the block of a hand: the verdict, and its equity where that is asked for
unfoldable pub hand_block : Form → Bool → List ℕ → HandAudit → List ℕ
hand_block form asked number audit =
    verdict_block form number audit ++ equity_block form asked audit
