-- The lines of a street after an all-in: how all runouts end for each pot once the cards of that street are known.
use Rattle.std.specs.Prelude.{◌≡◌, ℕ, Bool, true, false, if◌then◌else◌, List, [], ◌∷◌, ◌++◌, codes, decimal, unwrap_or, Option, Some, None}
use Rattle.std.specs.List.{flat_map}
use Rattle.card_sets.specs.declared.streets.Street.{Street}
use Rattle.hand_verdict.specs.declared.streets.StreetState.{StreetState}
use Rattle.hand_verdict.specs.declared.verdicts.AllIn.{AllIn}
use Rattle.hand_verdict.specs.declared.verdicts.AllIn.TheVariants.{None as NoAllIn, Unknown, Known}
use Rattle.hand_verdict.specs.declared.verdicts.HandAudit.{HandAudit}
use Rattle.hand_verdict.specs.declared.verdicts.HandAudit.TheVariants.{Rejected, Accepted}
use Rattle.showdown_tally.specs.Deals.{deal_of}
use Rattle.showdown_tally.specs.Showdown.{Showdown}
use Rattle.showdown_tally.specs.declared.table.Table.{Table}
use Rattle.even_luck.specs.Equities.{IsCountOf}
use Rattle.even_luck.specs.Figures.{Figures, full_figures, is_counted}
use Rattle.hand_blocks.specs.HandEquities.{pot_equities}
use Rattle.even_luck.specs.Seats.{Seated}
use Rattle.report_sheet.specs.Lines.{Line, plain, line_in}
use Rattle.hand_blocks.specs.Words.{later_word}
use Rattle.even_luck.specs.declared.equity.Equity.{Equity}
use Rattle.report_sheet.specs.declared.form.Form.{Form}

-- the first words of a line of a street, as `street river`
unfoldable pub street_name : Street → List (List ℕ)
street_name street = codes "street" ∷ unwrap_or (later_word street) [] ∷ []

-- what is said of a street in one word
abbrev pub word_line : Street → List ℕ → Line
word_line street word = plain (street_name street ++ word ∷ [])

-- the first line of a street that is counted, as `street turn runouts 42`
unfoldable pub street_line : Street → ℕ → Line
street_line street all = plain (street_name street ++ codes "runouts" ∷ decimal all ∷ [])

-- a street that is counted: how many runouts are left, and each pot with its hands
unfoldable pub counted_street : Form → Seated → List ℕ → Street → Showdown → Figures → List ℕ
counted_street form names seats street deal figures =
    line_in form (street_line street figures.all) ++ pot_equities form deal figures names seats

-- a street: `street river runouts 1` and the pots, say, or `street river unknown` where the cards of a contender on it aren't known
abbrev pub table_street : Form → Seated → List ℕ → Street → Option Table → List ℕ
table_street form names seats street None = line_in form (word_line street (codes "unknown"))
table_street form names seats street (Some table) =
    counted_street form names seats street (deal_of table) (full_figures (deal_of table))

-- a street after an all-in, whose hands are those of the table there; without a known one there is none
abbrev pub all_in_street : Form → Seated → StreetState → AllIn → List ℕ
all_in_street form names state NoAllIn = []
all_in_street form names state Unknown = []
all_in_street form names state (Known street seats table) =
    table_street form names seats state.street state.table

-- the block of a street of a hand
abbrev pub street_block : Form → HandAudit → StreetState → List ℕ
street_block form (Rejected line cause hundredths) state = []
street_block form (Accepted settlement all_in names players) state =
    all_in_street form names state all_in

-- whether an all-in is counted
abbrev pub is_counted_all_in : AllIn → Bool
is_counted_all_in NoAllIn = false
is_counted_all_in Unknown = false
is_counted_all_in (Known street seats table) = is_counted (deal_of table)

-- whether a hand has an all-in that is counted
abbrev pub has_counted : HandAudit → Bool
has_counted (Rejected line cause hundredths) = false
has_counted (Accepted settlement all_in names players) = is_counted_all_in all_in

-- the blocks of some streets of a hand, one after the other; there are none where its all-in isn't counted
unfoldable pub street_blocks : Form → HandAudit → List StreetState → List ℕ
street_blocks form audit states =
    if has_counted audit then flat_map (street_block form audit) states else []

-- the deal of a street, where all its cards are known, is counted: as many cards may come as are lacking, and there aren't too many
-- runouts
abbrev pub IsCountedStreet : StreetState → Type 0
IsCountedStreet state = (table : Table) → state.table ≡ Some table → is_counted (deal_of table) ≡ true

-- the equity of a table that may be known: that of the table, counted, and else any
abbrev pub IsOfTable : Option Table → Equity → Type 0
IsOfTable None equity = Unit {0}
IsOfTable (Some table) equity = IsCountOf (deal_of table) equity

-- the equity of a street after an all-in
abbrev pub IsOfStreet : StreetState → Equity → Type 0
IsOfStreet state equity = IsOfTable state.table equity
