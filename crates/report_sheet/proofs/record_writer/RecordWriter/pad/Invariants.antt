use Rattle.std.proofs.Common.{◌≡◌, []}
use Rattle.std.specs.Prelude.{replicate}
use Rattle.report_sheet.specs.Sheets.{in_form, with_words}
use Rattle.report_sheet.specs.declared.form.Form.TheVariants.{Csv}
use Rattle.report_sheet.proofs.record_writer.RecordWriter.pad.Given as goal

abbrev pub invariant-padding : goal.invariant-padding
invariant-padding l = with_words (in_form Csv l.self) (replicate l.self.left []) ≡ with_words (in_form Csv l.fn.self) (replicate l.fn.self.left [])

abbrev pub decreases-padding : goal.decreases-padding
decreases-padding l = l.self.left
