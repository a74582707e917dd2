use Rattle.std.proofs.Common.{◌+◌, length, refl, take, ap, ◌∙◌, append_assoc}
use Rattle.std.proofs.Math.Seq.{take-append_seam, take-length}
use Rattle.report_sheet.specs.Lines.{line_in}
use Rattle.report_sheet.specs.Sheets.{Written, with_line}
use Rattle.player_totals.specs.SumsSeen.{lines_of}
use Rattle.player_totals.specs.Totals.{hands_line}
use Rattle.player_totals.proofs.LineupFacts.{kept_both}
use Rattle.report_sheet.proofs.CallerLemmas.{first_line}
use Rattle.player_totals.proofs.total_lines.write_lines.Goals as goal

pub returns-clause-lines : goal.returns-clause-lines
returns-clause-lines g c =
    let old = c.args.out.now.items in
    let form = c.args.form in
    let line = hands_line c.args.word.now (c.args.accepted + c.args.rejected) c.args.accepted c.args.rejected in
    let first = first_line c.hands_line.new.sheet form line old c.hands_line.new.sheet.bytes c.append_to.new.out.items
    (c.in_ok-hands_line.ensures ∙ ap (λ (w : Written). with_line w line) c.new-sheet.ensures) refl c.in_ok-append_to.ensures.block in
    rw (first, append_assoc old (line_in form line) (lines_of g.S.Sums.line form c.args.players.now)) at c.write_players.ensures.lines

pub returns-clause-kept : goal.returns-clause-kept
returns-clause-kept g c =
    let old = c.args.out.now.items in
    let added = c.in_ok-append_to.ensures.block in
    kept_both old c.append_to.new.out.items c.write_players.new.out.items (ap (take (length old)) added ∙ take-append_seam old _) c.write_players.ensures.kept

pub returns-in_err-hands_line-clause-kept : goal.returns-in_err-hands_line-clause-kept
returns-in_err-hands_line-clause-kept g c = take-length c.args.out.now.items

pub returns-in_err-append_to-clause-kept : goal.returns-in_err-append_to-clause-kept
returns-in_err-append_to-clause-kept g c =
    let old = c.args.out.now.items in
    ap (take (length old)) c.in_err-append_to.ensures.memory ∙ take-length old
