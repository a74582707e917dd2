use Rattle.std.proofs.Common.{◌≡◌, ◌+◌, ◌*◌, ◌<◌, ℕ, length, set, sym, ◌∙◌, arith, subst}
use Rattle.showdown_tally.specs.Cells.{side_place}
use Rattle.runout_walk.specs.OneMore.{ClearsAt}
use Rattle.runout_walk.proofs.OneRunoutMore.{cleared}
use Rattle.runout_walk.proofs.counts.clear_side.Goals as goal

pub returns-then-has_side-clause-counts : goal.returns-then-has_side-clause-counts
returns-then-has_side-clause-counts c =
    let P : ℕ → Type 0 = λ n. ClearsAt c.args.game c.args.side c.args.pot c.args.counts.now (set c.args.counts.now (2 * n + c.side_row.result) c.clear.new.row) in
    let Q : ℕ → Type 0 = λ k. ClearsAt c.args.game c.args.side c.args.pot c.args.counts.now (set c.args.counts.now (2 * c.args.pot + k) c.clear.new.row) in
    let small = c.side_row.ensures.bound in
    let row : c.side_row.result ≡ side_place c.args.side = c.side_row.ensures.value in
    let inside = c.requires in
    let in_row : 2 * c.args.pot + side_place c.args.side < length c.args.counts.now = omega arith in
    subst P (sym c.from.ensures) (subst Q (sym row) (cleared c.args.game c.args.side c.args.pot c.args.counts.now c.clear.new.row in_row (sym c.has_side.ensures ∙ c.if-has_side.true) c.clear.ensures.zero))
