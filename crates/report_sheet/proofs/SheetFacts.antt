-- A part of the report that is being written: words after words, and whole lines.
use Rattle.std.proofs.Common.{◌≡◌, ℕ, zero, suc, ◌<◌, ◌-◌, Bool, true, false, List, [], ◌∷◌, ◌++◌, length, refl, sym, ap, ◌∙◌, arith, append_assoc, append-nil}
use Rattle.std.specs.Prelude.{codes, replicate}
use Rattle.std.specs.List.{flat_map}
use Rattle.std.proofs.lemmas.Grind.{flat_map-append}
use Rattle.std.proofs.lemmas.List.Concat.{flat_map-cons}
use Rattle.csv.specs.Writing.{default_writer, field_text, fields_text, row_text}
use Rattle.report_sheet.specs.Lines.{Line, plain, named, line_in, spaced, thirteen}
use Rattle.report_sheet.specs.Sheets.{Written, IsBetweenLines, end_in, name_in, nothing_in, with_end, with_line, with_lines, with_name, with_newline, with_word, with_words}
use Rattle.report_sheet.specs.declared.form.Form.{Form}
use Rattle.report_sheet.specs.declared.form.Form.TheVariants.{Text, Csv}
use Rattle.report_sheet.proofs.RecordText.{record_ends}

-- words after words
pub words_more : (w : Written) (first later : List (List ℕ)) → with_words (with_words w first) later ≡ with_words w (first ++ later)
unfolding with_words
words_more w [] later = refl
words_more w (word ∷ first) later = words_more (with_word w word) first later

pub no_words : (w : Written) → with_words w [] ≡ w
unfolding with_words
no_words w = refl

pub then_words : (w w' w'' : Written) (first later : List (List ℕ)) → w' ≡ with_words w first → w'' ≡ with_words w' later → w'' ≡ with_words w (first ++ later)
then_words w w' w'' first later before more = more ∙ ap (λ (v : Written). with_words v later) before ∙ words_more w first later

-- words change neither the form nor, but by their number, what a record takes
form_kept : (w : Written) (words : List (List ℕ)) → (with_words w words).form ≡ w.form
unfolding with_words
form_kept w [] = refl
form_kept w (word ∷ words) = form_kept (with_word w word) words

left_after : (w : Written) (words : List (List ℕ)) → (with_words w words).left ≡ w.left - length words
unfolding with_words
left_after w [] = omega arith
left_after w (word ∷ words) =
    let later : (with_words (with_word w word) words).left ≡ (w.left - 1) - length words = left_after (with_word w word) words in
    omega (arith, later)

replicate_length : {A : Type 0} (n : ℕ) (x last : A) → length (replicate n x ++ last ∷ []) ≡ suc n
replicate_length zero x last = refl
replicate_length (suc n) x last = ap suc (replicate_length n x last)

-- empty words and a name are as many as a record takes
pub none_left : (w : Written) (name : List ℕ) → (with_words w (replicate w.left [] ++ name ∷ [])).left ≡ 0
none_left w name =
    let after = left_after w (replicate w.left [] ++ name ∷ []) in
    let long = replicate_length w.left [] name in
    omega (arith, after, long)

-- what is being written as text, and as records
abbrev as_text : List ℕ → Bool → ℕ → Written
as_text bytes begun left = record { form = Text; bytes = bytes; begun = begun; left = left }

abbrev as_record : List ℕ → Bool → ℕ → Written
as_record bytes begun left = record { form = Csv; bytes = bytes; begun = begun; left = left }

-- words after a first one have a blank before each
text_after : (bytes : List ℕ) (left : ℕ) (words : List (List ℕ)) →
    with_newline (with_words (as_text bytes true left) words) ≡ as_text ((bytes ++ flat_map (λ next. 32 ∷ next) words) ++ codes "\n") false 12
unfolding with_words
text_after bytes left [] = ap (λ text. as_text (text ++ codes "\n") false 12) (sym (append-nil bytes))
text_after bytes left (word ∷ words) =
    text_after (bytes ++ 32 ∷ word) (left - 1) words
    ∙ ap (λ text. as_text (text ++ codes "\n") false 12) (append_assoc bytes (32 ∷ word) (flat_map (λ next. 32 ∷ next) words))

-- a line of text
text_line : (bytes : List ℕ) (left : ℕ) (words : List (List ℕ)) →
    with_newline (with_words (as_text bytes false left) words) ≡ as_text (bytes ++ (spaced words ++ codes "\n")) false 12
unfolding with_words
text_line bytes left [] = refl
text_line bytes left (word ∷ words) =
    text_after (bytes ++ word) (left - 1) words
    ∙ ap (λ text. as_text text false 12)
    (ap (λ text. text ++ codes "\n") (append_assoc bytes word (flat_map (λ next. 32 ∷ next) words)) ∙ append_assoc bytes (spaced (word ∷ words)) (codes "\n"))

-- fields after a first one have a comma before each
fields_after : (bytes : List ℕ) (left : ℕ) (fields : List (List ℕ)) →
    with_newline (with_words (as_record bytes true left) fields) ≡ as_record ((bytes ++ fields_text default_writer fields) ++ codes "\n") false 12
unfolding with_words fields_text
fields_after bytes left [] = ap (λ text. as_record (text ++ codes "\n") false 12) (sym (append-nil bytes))
fields_after bytes left (field ∷ fields) =
    fields_after (bytes ++ 44 ∷ field_text default_writer field) (left - 1) fields
    ∙ ap (λ text. as_record (text ++ codes "\n") false 12) (append_assoc bytes (44 ∷ field_text default_writer field) (fields_text default_writer fields))

-- a record
record_line : (bytes : List ℕ) (left : ℕ) (fields : List (List ℕ)) → 1 < length fields →
    with_newline (with_words (as_record bytes false left) fields) ≡ as_record (bytes ++ row_text default_writer fields) false 12
unfolding with_words
record_line bytes left [] some = absurd (omega arith)
record_line bytes left (field ∷ fields) some =
    fields_after (bytes ++ field_text default_writer field) (left - 1) fields
    ∙ ap (λ text. as_record text false 12)
    (ap (λ text. text ++ codes "\n") (append_assoc bytes (field_text default_writer field) (fields_text default_writer fields)) ∙ record_ends bytes (field ∷ fields) some)

-- with a name a record has two fields at least
some_last : (first later : List (List ℕ)) (name : List ℕ) → 0 < length (first ++ later ++ name ∷ [])
some_last [] [] name = omega arith
some_last [] (field ∷ later) name = omega arith
some_last (field ∷ first) later name = omega arith

two_fields : (words : List (List ℕ)) (name : List ℕ) → 1 < length (thirteen words name)
two_fields [] name = omega arith
two_fields (word ∷ words) name =
    let some = some_last words (replicate (12 - length (word ∷ words)) []) name in
    omega (arith, some)

-- words and a name become a record
named_record : (bytes : List ℕ) (words : List (List ℕ)) (name : List ℕ) →
    name_in Csv (with_words (as_record bytes false 12) words) name ≡ as_record (bytes ++ row_text default_writer (thirteen words name)) false 12
named_record bytes words name =
    let w : Written = as_record bytes false 12 in
    ap (λ n. with_newline (with_words (with_words w words) (replicate n [] ++ name ∷ []))) (left_after w words)
    ∙ ap with_newline (words_more w words (replicate (12 - length words) [] ++ name ∷ []))
    ∙ ap (λ fields. with_newline (with_words w fields)) (sym (append_assoc words (replicate (12 - length words) []) (name ∷ [])))
    ∙ record_line bytes 12 (thirteen words name) (two_fields words name)

-- what ends a line goes by the form, which words don't change
plain_by : (form : Form) (bytes : List ℕ) (begun : Bool) (left : ℕ) (words : List (List ℕ)) → begun ≡ false → left ≡ 12 →
    with_end (with_words (record { form = form; bytes = bytes; begun = begun; left = left }) words)
    ≡ with_line (record { form = form; bytes = bytes; begun = begun; left = left }) (plain words)
unfolding line_in with_end
plain_by Text bytes begun left words none all =
    let w : Written = as_text bytes false 12 in
    rw (none, all) (ap (λ (form : Form). end_in form (with_words w words)) (form_kept w words) ∙ text_line bytes 12 words)
plain_by Csv bytes begun left words none all =
    let w : Written = as_record bytes false 12 in
    rw (none, all) (ap (λ (form : Form). end_in form (with_words w words)) (form_kept w words) ∙ named_record bytes words [])

named_by : (form : Form) (bytes : List ℕ) (begun : Bool) (left : ℕ) (words : List (List ℕ)) (name : List ℕ) → begun ≡ false → left ≡ 12 →
    with_name (with_words (record { form = form; bytes = bytes; begun = begun; left = left }) words) name
    ≡ with_line (record { form = form; bytes = bytes; begun = begun; left = left }) (named words name)
unfolding line_in with_name
named_by Text bytes begun left words name none all =
    let w : Written = as_text bytes false 12 in
    rw (none, all)
    (ap (λ (form : Form). name_in form (with_words w words) name) (form_kept w words)
    ∙ ap with_newline (words_more w words (name ∷ []))
    ∙ text_line bytes 12 (words ++ name ∷ []))
named_by Csv bytes begun left words name none all =
    let w : Written = as_record bytes false 12 in
    rw (none, all) (ap (λ (form : Form). name_in form (with_words w words) name) (form_kept w words) ∙ named_record bytes words name)

-- the words of a whole line, and its end
pub plain_line : (w : Written) (words : List (List ℕ)) → IsBetweenLines w → with_end (with_words w words) ≡ with_line w (plain words)
plain_line w words between = plain_by w.form w.bytes w.begun w.left words between.none_begun between.all_left

pub named_line : (w : Written) (words : List (List ℕ)) (name : List ℕ) → IsBetweenLines w → with_name (with_words w words) name ≡ with_line w (named words name)
named_line w words name between = named_by w.form w.bytes w.begun w.left words name between.none_begun between.all_left

pub line_ends : (w w' : Written) (words : List (List ℕ)) → w' ≡ with_words w words → IsBetweenLines w → with_end w' ≡ with_line w (plain words)
line_ends w w' words written between = ap with_end written ∙ plain_line w words between

-- more lines after lines
pub lines_more : (w : Written) (first later : List ℕ) → with_lines (with_lines w first) later ≡ with_lines w (first ++ later)
lines_more w first later = ap (λ bytes. record w { bytes = bytes }) (append_assoc w.bytes first later)

pub no_lines : (w : Written) → with_lines w [] ≡ w
no_lines w = ap (λ bytes. record w { bytes = bytes }) (append-nil w.bytes)

pub then_lines : (w w' w'' : Written) (first later : List ℕ) → w' ≡ with_lines w first → w'' ≡ with_lines w' later → w'' ≡ with_lines w (first ++ later)
then_lines w w' w'' first later before more = more ∙ ap (λ (v : Written). with_lines v later) before ∙ lines_more w first later

-- of some that are left the first is written
pub left_more : (w w' w'' : Written) (text : ℕ → List ℕ) (all later : List ℕ) (n : ℕ) → with_lines w' (flat_map text (n ∷ later)) ≡ with_lines w (flat_map text all) → w'' ≡ with_lines w' (text n) →
    with_lines w'' (flat_map text later) ≡ with_lines w (flat_map text all)
left_more w w' w'' text all later n before more =
    ap (λ (v : Written). with_lines v (flat_map text later)) more ∙ lines_more w' (text n) (flat_map text later) ∙ ap (λ lines. with_lines w' lines) (sym (flat_map-cons text n later)) ∙ before

pub still_between : (w w' : Written) (lines : List ℕ) → w' ≡ with_lines w lines → IsBetweenLines w → IsBetweenLines w'
still_between w w' lines more between = record { none_begun = ap (λ (v : Written). v.begun) more ∙ between.none_begun; all_left = ap (λ (v : Written). v.left) more ∙ between.all_left }

-- the lines of one number more
pub each_more : (w w' w'' : Written) (text : ℕ → List ℕ) (done : List ℕ) (n : ℕ) → w' ≡ with_lines w (flat_map text done) → w'' ≡ with_lines w' (text n) →
    w'' ≡ with_lines w (flat_map text (done ++ n ∷ []))
each_more w w' w'' text done n before more =
    then_lines w w' w'' (flat_map text done) (text n) before more
    ∙ ap (λ lines. with_lines w lines) (sym (flat_map-append text done (n ∷ []) ∙ ap (λ lines. flat_map text done ++ lines) (append-nil (text n))))

-- a first line after other bytes
pub first_line : (w : Written) (form : Form) (line : Line) (old bytes now : List ℕ) → w ≡ with_line (nothing_in form) line → bytes ≡ w.bytes → now ≡ old ++ bytes → now ≡ old ++ line_in form line
first_line w form line old bytes now is read written = written ∙ ap (λ more. old ++ more) (read ∙ ap (λ (v : Written). v.bytes) is)
