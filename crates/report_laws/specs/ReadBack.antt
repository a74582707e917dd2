-- A record of the report as a reader of CSV reads it back.
use Rattle.std.specs.Prelude.{◌≡◌, ℕ, ◌≤◌, List, [], ◌++◌, length, Some}
use Rattle.csv.specs.Machine.{next_record}
use Rattle.csv.specs.Reading.{default_config}
use Rattle.csv.specs.declared.parser.State.TheVariants as state
use Rattle.report_sheet.specs.Lines.{Line, plain, named, line_in, thirteen}
use Rattle.report_sheet.specs.declared.form.Form.TheVariants.{Csv}

-- the words of a line
abbrev pub words_of : Line → List (List ℕ)
words_of (plain words) = words
words_of (named words name) = words

-- the fields of its record: the words, then empty fields, and last the name or one more empty field
abbrev pub fields_of_line : Line → List (List ℕ)
fields_of_line (plain words) = thirteen words []
fields_of_line (named words name) = thirteen words name

-- a reader that is before the record of a line reads the fields of the line, and is then before the text
-- after the record
abbrev pub IsReadBack : Line → List ℕ → Type 0
IsReadBack line later =
    next_record default_config state.StartRecord [] [] (line_in Csv line ++ later)
    ≡ Some (fields_of_line line, state.StartRecord, later)

-- a line of at most twelve words has thirteen fields
abbrev pub HasThirteen : Line → Type 0
HasThirteen line = length (words_of line) ≤ 12 → length (fields_of_line line) ≡ 13
