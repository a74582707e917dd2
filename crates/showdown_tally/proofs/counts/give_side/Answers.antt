use Rattle.std.proofs.Common.{◌≡◌, [], false, true, sym, ap, ◌∙◌, refl}
use Rattle.std.specs.Prelude.{slice_index_or}
use Rattle.card_sets.specs.Games.{has_side}
use Rattle.showdown_tally.specs.CountShares.{row_of}
use Rattle.showdown_tally.proofs.GrownSums.{Grows-none, Grows-same}
use Rattle.showdown_tally.proofs.counts.give_side.Goals as goal

pub returns-then-not-has_side-clause-grown : goal.returns-then-not-has_side-clause-grown
returns-then-not-has_side-clause-grown c =
    let none : has_side c.args.side c.args.table.now.known.game ≡ false = sym c.has_side.ensures ∙ c.if-not-has_side.true in
    Grows-none c.args.tally.now _ _ (λ p i s l m. rw none refl) (λ p i l m. rw none refl)

pub returns-clause-grown : goal.returns-clause-grown
returns-clause-grown c =
    let has : has_side c.args.side c.args.table.now.known.game ≡ true = sym c.has_side.ensures ∙ c.if-not-has_side.false in
    let row : slice_index_or c.args.counts.now c.row_place.result [] ≡ row_of c.args.counts.now c.args.pot c.args.side = ap (λ place. slice_index_or c.args.counts.now place []) c.row_place.ensures in
    Grows-same c.args.tally.now c.give_row.new.tally _ _ _ _ c.give_row.ensures.grown
    (λ p i s l m. rw (has, c.of.ensures, row) refl)
    (λ p i l m. rw (has, c.of.ensures, row, c.is_halved.ensures) refl)
