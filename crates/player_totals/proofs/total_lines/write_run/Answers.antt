use Rattle.std.proofs.Common.{◌≡◌, [], ◌++◌, take, ap, sym, ◌∙◌, arith, append_assoc}
use Rattle.std.proofs.lemmas.Result.{on_ok_weaker}
use Rattle.report_sheet.specs.Lines.{line_in}
use Rattle.report_sheet.specs.Sheets.{Written, nothing_in, with_lines}
use Rattle.player_totals.specs.SumsSeen.{lines_of}
use Rattle.player_totals.specs.TotalsSeen.{player_of}
use Rattle.player_totals.proofs.PlayerFacts.{lines_more, lines_same}
use Rattle.player_totals.proofs.total_lines.write_run.Goals as goal
use Rattle.player_totals.proofs.total_lines.write_run.Goals.{in-Some+in_ok-write_line, in_default}

pub loop-place-preserved : goal.loop-place-preserved
loop-place-preserved g c =
    let form = c.args.form in
    let players = c.args.players.now in
    let first = lines_of g.S.Sums.line form (take c.args.from players) in
    let before = c.loop-place.sheet in
    elim c.match-at.branch [
      | in-Some+in_ok-write_line w ↦
          let words = g.S.Sums.line (player_of w.in-Some.row.now.key) w.in-Some.row.now.sums in
          let line = line_in form words in
          let written : c.match-at.sheet ≡ with_lines before line =
          w.sheet-is ∙ w.in_ok-write_line.ensures ∙ ap (λ f. with_lines before (line_in f words)) (ap (λ (v : Written). v.form) c.loop-place.invariant.whole) in
          let bytes : c.match-at.sheet.bytes ≡ before.bytes ++ line = ap (λ (v : Written). v.bytes) written in
          record {
            whole = written ∙ ap (λ (v : Written). with_lines v line) c.loop-place.invariant.whole ∙ ap (λ more. with_lines (nothing_in form) more) (sym bytes);
            lines = lines_more g.S.Sums.line form players c.loop-place.place _ [] _ (sym w.in-Some.ensures)
                (ap (λ more. first ++ more) bytes ∙ sym (append_assoc first before.bytes line) ∙ ap (λ was. was ++ line) c.loop-place.invariant.lines);
          }
      | in_default w ↦
          record {
            whole = w.sheet-is ∙ c.loop-place.invariant.whole ∙ ap (λ (v : Written). with_lines (nothing_in form) v.bytes) (sym w.sheet-is);
            lines = lines_same g.S.Sums.line form players c.loop-place.place [] _ (sym w.in_default.ensures)
                (ap (λ (v : Written). first ++ v.bytes) w.sheet-is ∙ c.loop-place.invariant.lines);
          }
    ]

pub returns-clause-lines : goal.returns-clause-lines
returns-clause-lines g c =
    let form = c.args.form in
    let players = c.args.players.now in
    let first = lines_of g.S.Sums.line form (take c.args.from players) in
    let last = c.loop-place.auto.place-end in
    let beyond = c.loop-place-test.false in
    let at : c.loop-place.place ≡ c.args.end = omega (arith, c.requires, beyond, last) in
    let all : first ++ c.loop-place.sheet.bytes ≡ lines_of g.S.Sums.line form (take c.args.end players) =
    c.loop-place.invariant.lines ∙ ap (λ n. lines_of g.S.Sums.line form (take n players)) at in
    on_ok_weaker c.append_to.result (λ block before was.
    block ∙ ap (λ out. out ++ c.loop-place.sheet.bytes) was ∙ append_assoc before first c.loop-place.sheet.bytes ∙ ap (λ more. before ++ more) all) c.append_to.ensures.block
