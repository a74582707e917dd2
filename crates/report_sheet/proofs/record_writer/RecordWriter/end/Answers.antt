use Rattle.std.proofs.Common.{◌≡◌, ℕ, ◌-◌, ◌≤◌, [], ◌∷◌, ◌++◌, ap, subst, ◌∙◌, arith, OnOk}
use Rattle.std.specs.Prelude.{replicate}
use Rattle.report_sheet.specs.Sheets.{Written, in_form, with_newline, with_words}
use Rattle.report_sheet.specs.declared.form.Form.TheVariants.{Csv}
use Rattle.report_sheet.proofs.SheetFacts.{none_left, then_words}
use Rattle.report_sheet.proofs.record_writer.RecordWriter.end.Goals as goal

pub newline-requires : goal.newline-requires
newline-requires c =
    let w = in_form Csv c.args.self.now in
    let all = then_words w (in_form Csv c.pad.new.self) (in_form Csv c.word.new.self) _ _ c.in_ok-pad.ensures c.in_ok-word.ensures in
    let none : c.word.new.self.left ≡ 0 = ap (λ (v : Written). v.left) all ∙ none_left w c.args.name.now in
    omega (arith, none)

pub returns : goal.returns
returns c =
    let w = in_form Csv c.args.self.now in
    let all = then_words w (in_form Csv c.pad.new.self) (in_form Csv c.word.new.self) _ _ c.in_ok-pad.ensures c.in_ok-word.ensures in
    subst (λ (v : Written). OnOk c.newline.result (in_form Csv c.newline.new.self ≡ with_newline v)) all c.newline.ensures
