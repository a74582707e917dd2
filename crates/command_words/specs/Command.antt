-- The words of a command, and the usage line for words that have no valid form.
use Rattle.std.specs.Prelude.{ℕ, ◌==◌, ◌&&◌, ◌||◌, not, nat_le, nat_lt, Bool, true, false, if◌then◌else◌, List, [], ◌∷◌, ◌++◌, codes, length, Option, Some, None, is_some, option_and_then, option_map}
use Rattle.std.specs.List.{list_any}
use Rattle.std.specs.Str.{bytes_eq}
use Rattle.line_text.specs.Amounts.{digit_count, number_of}
use Rattle.clap.specs.Lexer.{long_of, short_of}
use Rattle.command_words.specs.declared.command.Command.{Command}
use Rattle.command_words.specs.declared.command.Mode.{Mode}
use Rattle.command_words.specs.declared.command.Mode.TheVariants.{Audit, Streets, Check, Results, Settle, Spots, Ranges, Totals, Balance, Made}
use Rattle.report_sheet.specs.declared.form.Form.{Form}
use Rattle.report_sheet.specs.declared.form.Form.TheVariants.{Text, Csv}

-- names, each with the value given to it, in order; the mode has a name of its own
abbrev pub Given : Type 0
Given = List (List ℕ × List ℕ)

abbrev pub mode_name : List ℕ
mode_name = codes "mode"

abbrev pub has_name : List ℕ → Given → Bool
has_name name given = list_any (λ pair. bytes_eq pair.0 name) given

-- one more value; none if its name has a value already
abbrev pub give : List ℕ → List ℕ → Given → Option Given
give name value given = if has_name name given then None else Some (given ++ (name, value) ∷ [])

-- the names of the options
abbrev pub is_option : List ℕ → Bool
is_option name =
    bytes_eq (codes "workers") name || (bytes_eq (codes "format") name
    || (bytes_eq (codes "seed") name || bytes_eq (codes "hands") name))

-- a word that is neither `--` nor a hyphen followed by more: modes and values are such words
abbrev pub is_plain : List ℕ → Bool
is_plain word = not (bytes_eq word (codes "--"))
    && (not (is_some (long_of word)) && not (is_some (short_of word)))

-- the words after `--`: each is the mode
abbrev pub modes_from : List (List ℕ) → Given → Option Given
modes_from [] given = Some given
modes_from (word ∷ words) given = option_and_then (modes_from words) (give mode_name word given)

-- a word `--x=v` gives its option the value, and after a word `--x` the next word is the value
abbrev pub given_by_option : List ℕ → Option (List ℕ) → Given → (Given → Option Given) →
    (List ℕ → Option Given) → Option Given
given_by_option name (Some value) given next wait = option_and_then next (give name value given)
given_by_option name None given next wait = wait name

-- any other word is the mode
abbrev pub given_by_word : Option (List ℕ × Option (List ℕ)) → List ℕ → Given →
    (Given → Option Given) → (List ℕ → Option Given) → Option Given
given_by_word (Some flag) word given next wait =
    if is_option flag.0 then given_by_option flag.0 flag.1 given next wait else None
given_by_word None word given next wait =
    if is_some (short_of word) then None else option_and_then next (give mode_name word given)

-- what some words give, read from the left, while an option waits for its value or none does
abbrev pub given_from : Option (List ℕ) → List (List ℕ) → Given → Option Given
given_from None [] given = Some given
given_from (Some name) [] given = None
given_from (Some name) (word ∷ words) given =
    if is_plain word then option_and_then (given_from None words) (give name word given) else None
given_from None (word ∷ words) given =
    if bytes_eq word (codes "--") then modes_from words given
    else given_by_word (long_of word) word given (given_from None words)
    (λ name. given_from (Some name) words given)

-- the value of a name
abbrev pub value_in : List ℕ → Given → Option (List ℕ)
value_in name [] = None
value_in name (pair ∷ more) = if bytes_eq pair.0 name then Some pair.1 else value_in name more

-- a number of one to ten digits, within bounds
abbrev pub number_in : ℕ → ℕ → List ℕ → Option ℕ
number_in least most text =
    if nat_lt 0 (length text) && (nat_le (length text) 10 && ((digit_count text == length text)
    && (nat_le least (number_of text) && nat_le (number_of text) most)))
    then Some (number_of text) else None

abbrev pub mode_named : List ℕ → Option Mode
mode_named word =
    if bytes_eq word (codes "audit") then Some Audit
    else (if bytes_eq word (codes "streets") then Some Streets
    else (if bytes_eq word (codes "check") then Some Check
    else (if bytes_eq word (codes "results") then Some Results
    else (if bytes_eq word (codes "settle") then Some Settle
    else (if bytes_eq word (codes "spots") then Some Spots
    else (if bytes_eq word (codes "ranges") then Some Ranges
    else (if bytes_eq word (codes "totals") then Some Totals
    else (if bytes_eq word (codes "balance") then Some Balance
    else (if bytes_eq word (codes "made") then Some Made else None)))))))))

abbrev pub form_named : List ℕ → Option Form
form_named word =
    if bytes_eq word (codes "text") then Some Text
    else (if bytes_eq word (codes "csv") then Some Csv else None)

-- the default if no value is given, and otherwise what the value says
abbrev pub or_default : {A : Type 0} → A → (List ℕ → Option A) → Option (List ℕ) → Option A
or_default default read None = Some default
or_default default read (Some text) = read text

-- the command of the given values: a mode, and perhaps the number of workers, the form, the seed, and the number of
-- hands
abbrev pub command_of : Given → Option Command
command_of given =
    option_and_then (λ mode.
    option_and_then (λ workers. option_and_then (λ form. option_and_then (λ seed. option_map
    (λ hands. (let c : Command = record {
      mode = mode;
      workers = workers;
      form = form;
      seed = seed;
      hands = hands;
    } in c))
    (or_default 100 (number_in 0 10000) (value_in (codes "hands") given)))
    (or_default 1 (number_in 0 4294967295) (value_in (codes "seed") given)))
    (or_default Text form_named (value_in (codes "format") given)))
    (or_default 2 (number_in 1 16) (value_in (codes "workers") given)))
    (option_and_then mode_named (value_in mode_name given))

-- the command of some words; none if they have no valid form
unfoldable pub command : List (List ℕ) → Option Command
command words = option_and_then command_of (given_from None words [])

-- whether a mode reads the input; `made` doesn't
abbrev pub reads_input : Mode → Bool
reads_input Made = false
reads_input _ = true

-- whether the words ask for a mode that reads the input
abbrev pub reads : Option Command → Bool
reads None = false
reads (Some asked) = reads_input asked.mode

-- whether the words ask for made hands
abbrev pub makes : Option Command → Bool
makes None = false
makes (Some asked) = not (reads_input asked.mode)

-- the line that says how to call the program
unfoldable pub usage_line : List ℕ
usage_line = codes "usage: equity MODE [--workers N] [--format text|csv] [--seed S] [--hands H]\n"
