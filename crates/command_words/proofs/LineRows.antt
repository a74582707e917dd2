-- The command line of the program, as its parser knows it, and what its rows are.
use Rattle.std.proofs.Common.{ℕ, ◌≡◌, ◌||◌, Bool, true, false, List, [], ◌∷◌, ◌++◌, map, Some, None, codes, refl, sym}
use Rattle.std.specs.Str.{bytes_eq}
use Rattle.clap.specs.Walk.{Row, Rule, Text, has_row, with_values, without, arg_by_id}
use Rattle.clap.specs.Simple.{Shape, built}
use Rattle.clap.specs.declared.builder.range.ValueRange.{ValueRange}
use Rattle.clap.specs.declared.builder.value_parser.ValueParser.TheVariants as vp
use Rattle.clap.specs.declared.builder.value_parser.Reading.TheVariants as reading
use Rattle.clap.specs.declared.parser.matches.ValueSource.TheVariants.{CommandLine}
use Rattle.clap.proofs.WalkLemmas.{list_any-map}
use Rattle.command_words.specs.Command.{Given, has_name}
use Rattle.command_words.specs.CommandLine.{mode_rule, option_rule, line_app}

-- the names that may have a value
pub data Name : Type 0 where
  mode : Name
  workers : Name
  format : Name
  seed : Name
  hands : Name

abbrev pub text_of : Name → List ℕ
text_of mode = codes "mode"
text_of workers = codes "workers"
text_of format = codes "format"
text_of seed = codes "seed"
text_of hands = codes "hands"

abbrev pub option_given : Name → Rule
option_given n = option_rule (text_of n)

-- the same as the parser builds them
abbrev pub one_value : ValueRange
one_value = record { start_inclusive = 1; end_inclusive = 1 }

abbrev pub rule_for : Name → Rule
rule_for mode = record mode_rule { index = Some 1; range = Some one_value; parser = Some vp.String }
rule_for workers = record (option_given workers) { range = Some one_value; parser = Some vp.String }
rule_for format = record (option_given format) { range = Some one_value; parser = Some vp.String }
rule_for seed = record (option_given seed) { range = Some one_value; parser = Some vp.String }
rule_for hands = record (option_given hands) { range = Some one_value; parser = Some vp.String }

abbrev pub line_rules : List Rule
line_rules = rule_for mode ∷ rule_for workers ∷ rule_for format ∷ rule_for seed ∷ rule_for hands ∷ []

abbrev pub line_shape : Shape
line_shape = (built line_app).top

pub rules_are : line_shape.rules ≡ line_rules
rules_are = refl

-- the row of a name and its value, and those of all that were given
abbrev pub row_for : Text × Text → Row
row_for pair = record { id = pair.0; values = pair.1 ∷ []; count = None; source = Some CommandLine; reading = reading.AsWritten }

abbrev pub rows_for : Given → List Row
rows_for given = map row_for given

pub has_row_for : (id : Text) (given : Given) → has_row id (rows_for given) ≡ has_name id given
has_row_for id given = sym (list_any-map (λ (r : Row). bytes_eq r.id id) row_for given)

-- a value of a name that has none yet is one row more
pub with_new : (id v : Text) (rows : List Row) → has_row id rows ≡ false
    → with_values id reading.AsWritten CommandLine (v ∷ []) (without id rows) ≡ rows ++ row_for (id, v) ∷ []
with_new id v [] h = refl
with_new id v (r ∷ rows) h = go (bytes_eq r.id id) refl h (with_new id v rows)
  where
    go : (b : Bool) → bytes_eq r.id id ≡ b → (b || has_row id rows) ≡ false
        → (has_row id rows ≡ false → with_values id reading.AsWritten CommandLine (v ∷ []) (without id rows) ≡ rows ++ row_for (id, v) ∷ [])
        → with_values id reading.AsWritten CommandLine (v ∷ []) (without id (r ∷ rows)) ≡ (r ∷ rows) ++ row_for (id, v) ∷ []
    go true e h rest = cc
    go false e h rest = rw (e, e, rest h) refl

-- the argument of a name
pub by_id : (n : Name) → arg_by_id line_rules (text_of n) ≡ Some (rule_for n)
by_id mode = refl
by_id workers = refl
by_id format = refl
by_id seed = refl
by_id hands = refl
