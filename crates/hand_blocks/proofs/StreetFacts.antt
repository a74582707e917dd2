-- The lines of a street after an all-in, from a tally of all its runouts.
use Rattle.std.proofs.Common.{◌≡◌, ℕ, List, take, refl, arith}
use Rattle.std.proofs.lemmas.List.{length-take}
use Rattle.card_sets.specs.State.{state_of}
use Rattle.card_sets.specs.declared.streets.Street.{Street}
use Rattle.even_luck.specs.Equities.{IsFull}
use Rattle.even_luck.specs.Figures.{full_figures, tally_figures}
use Rattle.even_luck.specs.Seats.{Seated}
use Rattle.even_luck.proofs.CallerLemmas.{Agree-full}
use Rattle.hand_blocks.specs.Streets.{counted_street}
use Rattle.hand_blocks.proofs.EquityFacts.{pots_same}
use Rattle.report_sheet.specs.declared.form.Form.{Form}
use Rattle.showdown_tally.specs.Cells.{Sums}
use Rattle.showdown_tally.specs.Deals.{deal_of}
use Rattle.showdown_tally.specs.declared.table.Table.{Table}

-- a tally of all runouts gives the lines of the full listing
pub street_same : (form : Form) (names : Seated) (seats : List ℕ) (street : Street) (table : Table) (sums : Sums) → IsFull (deal_of table) sums →
    counted_street form names seats street (deal_of table) (tally_figures sums) ≡ counted_street form names seats street (deal_of table) (full_figures (deal_of table))
unfolding counted_street
street_same form names seats street table sums full =
    let few = table.few_pots in
    let same = Agree-full (deal_of table) sums full.counts in
    let pots = pots_same form names seats (state_of table.known) (take table.pots table.eligible) (tally_figures sums) (full_figures (deal_of table))
    (omega (arith, length-take table.pots table.eligible)) same in
    rw (pots, same.all) refl
