use Rattle.std.proofs.Common.{◌≡◌, length, ap, ◌∙◌, subst, Ok, Result, arith}
use Rattle.std.proofs.lemmas.Result.{on_ok_weaker}
use Rattle.report_sheet.specs.Sheets.{with_lines}
use Rattle.range_lines.specs.declared.tally.RangeJobFault.{RangeJobFault}
use Rattle.range_lines.specs.declared.tally.RangeTally.{RangeTally}
use Rattle.range_lines.specs.Counted.{IsCountOf}
use Rattle.range_lines.specs.RangeSpot.{ranges_in}
use Rattle.range_lines.proofs.BlockFacts.{block_counted}
use Rattle.range_lines.proofs.SmallTallies.{small_tally}
use Rattle.range_lines.proofs.RangeWalks.{equal_runouts}
use Rattle.range_lines.proofs.blocks.known_spot.Goals as goal

pub counted_spot-requires-clause-small : goal.counted_spot-requires-clause-small
counted_spot-requires-clause-small c =
    let spot = ranges_in c.args.spot.now in
    let is : IsCountOf spot (Ok c.in-Ok.tally) = subst (λ (r : Result RangeTally RangeJobFault). IsCountOf spot r) c.in-Ok.is c.requires.counted in
    let all : c.len.result ≡ length spot.ranges = omega (arith, c.len.ensures, c.args.spot.now.ranges.ok.0) in
    rw all (small_tally spot c.in-Ok.tally c.requires.sound (λ choice m. equal_runouts spot choice c.requires.sound m) is.0 is.1 is.2)

pub returns-in-Ok : goal.returns-in-Ok
returns-in-Ok c =
    let spot = ranges_in c.args.spot.now in
    let is : IsCountOf spot (Ok c.in-Ok.tally) = subst (λ (r : Result RangeTally RangeJobFault). IsCountOf spot r) c.in-Ok.is c.requires.counted in
    let all : c.len.result ≡ length spot.ranges = omega (arith, c.len.ensures, c.args.spot.now.ranges.ok.0) in
    on_ok_weaker c.counted_spot.result
    (λ e. e ∙ ap (λ lines. with_lines c.args.sheet.now lines) (block_counted c.args.sheet.now.form c.args.place c.args.line spot c.in-Ok.tally c.len.result is.0 is.1 is.2 all))
    c.counted_spot.ensures
