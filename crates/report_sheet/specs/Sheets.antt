-- A part of the report that is being written: its lines so far, and the words so far of the line that comes next.
use Rattle.std.specs.Prelude.{◌≡◌, ℕ, ◌-◌, Bool, true, false, if◌then◌else◌, List, [], ◌∷◌, ◌++◌, codes, replicate}
use Rattle.csv.specs.Writing.{default_writer, field_text}
use Rattle.report_sheet.specs.Progress.{Progress}
use Rattle.report_sheet.specs.Lines.{Line, line_in}
use Rattle.report_sheet.specs.declared.form.Form.{Form}
use Rattle.report_sheet.specs.declared.form.Form.TheVariants.{Text, Csv}

pub record Written : Type 0 where
  pub form : Form
  -- the bytes of the lines so far, and of the next line's words so far
  pub bytes : List ℕ
  -- whether the next line has a word
  pub begun : Bool
  -- how many words more a record takes before its name
  pub left : ℕ

-- what has been written in a form
abbrev pub in_form : Form → Progress → Written
in_form form p = record { form = form; bytes = p.bytes; begun = p.begun; left = p.left }

-- nothing so far
abbrev pub nothing_in : Form → Written
nothing_in form = record { form = form; bytes = []; begun = false; left = 12 }

-- what stands between two words
abbrev pub separator : Form → List ℕ
separator Text = codes " "
separator Csv = codes ","

-- what stands before a word
abbrev pub before_word : Form → Bool → List ℕ
before_word form begun = if begun then separator form else []

-- a word as it stands in a line
abbrev pub word_text : Form → List ℕ → List ℕ
word_text Text word = word
word_text Csv word = field_text default_writer word

-- one word more
abbrev pub with_word : Written → List ℕ → Written
with_word w word =
    record w { bytes = w.bytes ++ (before_word w.form w.begun ++ word_text w.form word); begun = true; left = w.left - 1 }

-- some words more
unfoldable pub with_words : Written → List (List ℕ) → Written
with_words w [] = w
with_words w (word ∷ later) = with_words (with_word w word) later

-- a newline ends the line
abbrev pub with_newline : Written → Written
with_newline w = record w { bytes = w.bytes ++ codes "\n"; begun = false; left = 12 }

-- a name stands last, and the line ends; a record gets empty fields up to its name
abbrev pub name_in : Form → Written → List ℕ → Written
name_in Text w name = with_newline (with_words w (name ∷ []))
name_in Csv w name = with_newline (with_words w (replicate w.left [] ++ name ∷ []))

unfoldable pub with_name : Written → List ℕ → Written
with_name w name = name_in w.form w name

-- the line ends; of a record the name is empty
abbrev pub end_in : Form → Written → Written
end_in Text w = with_newline w
end_in Csv w = name_in Csv w []

unfoldable pub with_end : Written → Written
with_end w = end_in w.form w

-- the next line has no word yet
pub record IsBetweenLines (w : Written) : Type 0 where
  pub none_begun : w.begun ≡ false
  pub all_left : w.left ≡ 12

-- more whole lines
abbrev pub with_lines : Written → List ℕ → Written
with_lines w more = record w { bytes = w.bytes ++ more }

-- a whole line more
abbrev pub with_line : Written → Line → Written
with_line w line = with_lines w (line_in w.form line)
