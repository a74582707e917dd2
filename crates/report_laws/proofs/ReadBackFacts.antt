-- A record of the report as a reader of CSV reads it back.
use Rattle.std.proofs.Common.{◌≡◌, ℕ, ◌+◌, ◌-◌, ◌≤◌, List, [], ◌∷◌, ◌++◌, length, Some, refl, ap, ◌∙◌, arith, length-append}
use Rattle.std.specs.Prelude.{replicate}
use Rattle.std.proofs.lemmas.List.{length-replicate}
use Rattle.csv.specs.Machine.{next_record}
use Rattle.csv.specs.Reading.{default_config}
use Rattle.csv.specs.Writing.{default_writer, read_back, row_text}
use Rattle.csv.specs.declared.parser.State.TheVariants as state
use Rattle.csv.proofs.RoundTrip.{read-write}
use Rattle.report_sheet.specs.Lines.{Line, plain, named, line_in, thirteen}
use Rattle.report_laws.specs.ReadBack.{IsReadBack, HasThirteen}

-- a record has a field, so it is no blank line
some_field : (fields : List (List ℕ)) (name : List ℕ) → read_back (fields ++ name ∷ []) ≡ fields ++ name ∷ []
some_field [] name = refl
some_field (field ∷ fields) name = refl

record_read : (words : List (List ℕ)) (name later : List ℕ) →
    next_record default_config state.StartRecord [] [] (row_text default_writer (thirteen words name) ++ later) ≡ Some (thirteen words name, state.StartRecord, later)
record_read words name later =
    read-write (thirteen words name) later
    ∙ ap (λ fields. Some (fields, state.StartRecord, later)) (some_field (words ++ replicate (12 - length words) []) name)

pub line-IsReadBack : (line : Line) (later : List ℕ) → IsReadBack line later
unfolding line_in
line-IsReadBack (plain words) later = record_read words [] later
line-IsReadBack (named words name) later = record_read words name later

count : (words : List (List ℕ)) (name : List ℕ) → length words ≤ 12 → length (thirteen words name) ≡ 13
count words name few =
    let padded : length (words ++ replicate (12 - length words) []) ≡ length words + length {A = List ℕ} (replicate (12 - length words) []) = length-append words (replicate (12 - length words) []) in
    let empty : length {A = List ℕ} (replicate (12 - length words) []) ≡ 12 - length words = length-replicate (12 - length words) [] in
    length-append (words ++ replicate (12 - length words) []) (name ∷ []) ∙ omega (arith, padded, empty, few)

pub line-HasThirteen : (line : Line) → HasThirteen line
line-HasThirteen (plain words) few = count words [] few
line-HasThirteen (named words name) few = count words name few
