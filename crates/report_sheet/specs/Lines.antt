-- A line of the report: its words, and the name that stands last where there is one. It has two forms: text, and a record of
-- thirteen fields by the usual rules of CSV.
use Rattle.std.specs.Prelude.{ℕ, ◌-◌, List, [], ◌∷◌, ◌++◌, length, replicate, codes}
use Rattle.std.specs.List.{flat_map}
use Rattle.csv.specs.Writing.{default_writer, row_text}
use Rattle.report_sheet.specs.declared.form.Form.{Form}
use Rattle.report_sheet.specs.declared.form.Form.TheVariants.{Text, Csv}

-- a line of words, or of words and a name
pub data Line : Type 0 where
  plain : List (List ℕ) → Line
  named : List (List ℕ) → List ℕ → Line

-- words with one blank between
abbrev pub spaced : List (List ℕ) → List ℕ
spaced [] = []
spaced (word ∷ later) = word ++ flat_map (λ next. 32 ∷ next) later

-- thirteen fields: the words, empty fields, and the name as the last
abbrev pub thirteen : List (List ℕ) → List ℕ → List (List ℕ)
thirteen words name = words ++ replicate (12 - length words) [] ++ name ∷ []

-- a line as text
abbrev pub text_of_line : Line → List ℕ
text_of_line (plain words) = spaced words ++ codes "\n"
text_of_line (named words name) = spaced (words ++ name ∷ []) ++ codes "\n"

-- a line as a record; without a name the last field is empty
abbrev pub record_of_line : Line → List ℕ
record_of_line (plain words) = row_text default_writer (thirteen words [])
record_of_line (named words name) = row_text default_writer (thirteen words name)

-- a line in a form
unfoldable pub line_in : Form → Line → List ℕ
line_in Text line = text_of_line line
line_in Csv line = record_of_line line
