-- How clauses see a sheet: lines of one form.
use Rattle.report_sheet.specs.Sheets.{Written, in_form}
use Rattle.report_sheet.specs.declared.form.Form.TheVariants.{Text, Csv}
use Rattle.report_sheet.specs.declared.sheet.Lines.{Lines}
use Rattle.report_sheet.specs.declared.sheet.Lines.TheVariants as lines

abbrev pub seen_lines : Lines → Written
seen_lines (lines.Text text) = in_form Text text
seen_lines (lines.Csv records) = in_form Csv records
