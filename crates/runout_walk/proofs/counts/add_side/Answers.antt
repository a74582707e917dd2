use Rattle.std.proofs.Common.{◌≡◌, ◌+◌, ◌*◌, ◌<◌, ◌^◌, ◌==◌, ℕ, [], cond, length, set, sym, ◌∙◌, arith, subst}
use Rattle.std.specs.Prelude.{slice_index, slice_index_or}
use Rattle.showdown_tally.specs.Cells.{side_place}
use Rattle.runout_walk.specs.OneMore.{AddsAt}
use Rattle.runout_walk.proofs.OneRunoutMore.{added}
use Rattle.runout_walk.proofs.counts.add_side.Goals as goal

pub add_at-requires-clause-fits : goal.add_at-requires-clause-fits
add_at-requires-clause-fits c =
    let P : ℕ → Type 0 = λ n. slice_index (slice_index_or c.args.counts.now (2 * n + c.side_row.result) []) c.args.place + 1 < 2 ^ 32 in
    let Q : ℕ → Type 0 = λ k. slice_index (slice_index_or c.args.counts.now (2 * c.args.pot + k) []) c.args.place + 1 < 2 ^ 32 in
    subst P (sym c.from.ensures) (subst Q (sym c.side_row.ensures.value) (c.requires.fits (sym c.has_side.ensures ∙ c.if-has_side.true)))

pub returns-then-has_side-clause-counts : goal.returns-then-has_side-clause-counts
returns-then-has_side-clause-counts c =
    let P : ℕ → Type 0 = λ n. AddsAt c.args.game c.args.side c.args.pot c.args.place c.args.counts.now (set c.args.counts.now (2 * n + c.side_row.result) c.add_at.new.row) in
    let Q : ℕ → Type 0 = λ k. AddsAt c.args.game c.args.side c.args.pot c.args.place c.args.counts.now (set c.args.counts.now (2 * c.args.pot + k) c.add_at.new.row) in
    let R : ℕ → Type 0 = λ n. (at : ℕ) → slice_index c.add_at.new.row at ≡ slice_index (slice_index_or c.args.counts.now (2 * n + c.side_row.result) []) at + cond (c.args.place == at) 1 0 in
    let S : ℕ → Type 0 = λ k. (at : ℕ) → slice_index c.add_at.new.row at ≡ slice_index (slice_index_or c.args.counts.now (2 * c.args.pot + k) []) at + cond (c.args.place == at) 1 0 in
    let small = c.side_row.ensures.bound in
    let row : c.side_row.result ≡ side_place c.args.side = c.side_row.ensures.value in
    let inside = c.requires.inside in
    let in_row : 2 * c.args.pot + side_place c.args.side < length c.args.counts.now = omega arith in
    let each : S (side_place c.args.side) = subst S row (subst R c.from.ensures c.add_at.ensures.counts) in
    subst P (sym c.from.ensures) (subst Q (sym row) (added c.args.game c.args.side c.args.pot c.args.place c.args.counts.now c.add_at.new.row in_row (sym c.has_side.ensures ∙ c.if-has_side.true) each))
