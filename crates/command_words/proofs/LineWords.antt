-- The command of the words, by what their parser makes of them.
use Rattle.std.proofs.Common.{◌≡◌, ◌||◌, Bool, true, false, List, [], ◌∷◌, map, Option, Some, None, refl, sym, ◌∙◌, rules, Result, IfOk, IsErrOf}
use Rattle.std.specs.Prelude.{option_and_then, string_bytes, String}
use Rattle.std.specs.Option.{ok_or}
use Rattle.std.specs.Str.{bytes_eq}
use Rattle.std.proofs.lemmas.Str.{IsUtf8-string_bytes}
use Rattle.clap.specs.Walk.{Text}
use Rattle.clap.specs.Simple.{matches_of}
use Rattle.clap.specs.Kinds.{IsAmong}
use Rattle.clap.specs.Faults.{fault_of}
use Rattle.clap.specs.declared.error.kind.ErrorKind.{ErrorKind}
use Rattle.command_words.specs.Command.{Given, has_name, given_from, value_in, command, command_of}
use Rattle.command_words.specs.CommandLine.{line_app}
use Rattle.command_words.specs.declared.command.Command.{Command}
use Rattle.command_words.specs.declared.words.WordFault.{WordFault}
use Rattle.command_words.specs.declared.words.WordFault.TheVariants.{Usage}
use Rattle.command_words.proofs.LineRows.{mode, text_of, rows_for}
use Rattle.command_words.proofs.WordWalks.{AllUtf8, no_word, one_word}
use Rattle.command_words.proofs.LineFaults.{Parses, ParsesBy, words_parse}

-- the words of a command line are text
pub all_text : {Z : Type 0} (words : List (String Z)) → AllUtf8 (map string_bytes words)
all_text [] = no_word
all_text (word ∷ words) = one_word (string_bytes word) (map string_bytes words) (IsUtf8-string_bytes word) (all_text words)

-- words that are taken give something, which the matches have
pub record Gives (words : List Text) : Type 0 where
  pub given : Given
  pub given_is : given_from None words [] ≡ Some given
  pub rows_are : matches_of line_app words ≡ rows_for given

pub gives : (words : List Text) → AllUtf8 words → fault_of line_app words ≡ [] → Gives words
gives words u e = go (given_from None words []) refl (words_parse words u)
  where
    by : (b : Bool) (given : Given) → given_from None words [] ≡ Some given → ParsesBy b given words → Gives words
    by true given h p = record { given = given; given_is = h; rows_are = p.1 }
    by false given h p = let bad : [] ≡ p.0 ∷ p.1 = sym e ∙ p.2 in absurd (search rules)

    go : (o : Option Given) → given_from None words [] ≡ o → Parses o words → Gives words
    go None h p = let bad : [] ≡ p.0 ∷ p.1 = sym e ∙ p.2 in absurd (search rules)
    go (Some given) h p = by (has_name (text_of mode) given) given h p

no_value : (name : Text) (given : Given) → has_name name given ≡ false → value_in name given ≡ None
no_value name [] h = refl
no_value name (pair ∷ more) h = go (bytes_eq pair.0 name) refl h (no_value name more)
  where
    go : (b : Bool) → bytes_eq pair.0 name ≡ b → (b || has_name name more) ≡ false → (has_name name more ≡ false → value_in name more ≡ None) → value_in name (pair ∷ more) ≡ None
    go true e h rest = absurd (search rules)
    go false e h rest = rw e (rest h)

-- words that are refused ask for no command
pub refused : (words : List Text) → AllUtf8 words → (k : ErrorKind) → IsAmong k (fault_of line_app words) → command words ≡ None
unfolding command
refused words u k among = go (given_from None words []) refl (words_parse words u)
  where
    absurd_fault : (fault_of line_app words ≡ []) → ⊥
    absurd_fault e = let bad = rw e at among in bad

    by : (b : Bool) (given : Given) → has_name (text_of mode) given ≡ b → given_from None words [] ≡ Some given → ParsesBy b given words → option_and_then command_of (given_from None words []) ≡ None
    by true given n h p = absurd (absurd_fault p.0)
    by false given n h p = rw (h, no_value (text_of mode) given n) refl

    go : (o : Option Given) → given_from None words [] ≡ o → Parses o words → option_and_then command_of (given_from None words []) ≡ None
    go None h p = rw h refl
    go (Some given) h p = by (has_name (text_of mode) given) given refl h p

pub command_is : (words : List Text) (g : Gives words) → command words ≡ command_of g.given
unfolding command
command_is words g = rw g.given_is refl

pub ok_of : (words : List Text) (o : Option Command) (r : Result Command WordFault) → r ≡ ok_or o Usage → command words ≡ o → IfOk r (λ c. command words ≡ Some c)
ok_of words None r e h = rw e tt
ok_of words (Some c) r e h = rw e h

pub err_of : (words : List Text) (o : Option Command) (r : Result Command WordFault) → r ≡ ok_or o Usage → command words ≡ o → IsErrOf r Usage → command words ≡ None
err_of words None r e h x = h
err_of words (Some c) r e h x = absurd (search rules)
