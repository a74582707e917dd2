-- The texts of the items of a range.
use Rattle.std.specs.Prelude.{ℕ, Bool, ◌==◌, List}
use Rattle.std.specs.List.{slice_split}
use Rattle.std.specs.Option.{option_map_or}
use Rattle.std.specs.Prelude.{[]}
use Rattle.range_lines.specs.declared.texts.Texts.{Texts}

-- a comma
abbrev pub is_comma : ℕ → Bool
is_comma byte = byte == 44

-- the texts between the commas of a word, empty ones too
abbrev pub texts_of : List ℕ → List (List ℕ)
texts_of word = slice_split is_comma word

-- the texts that are still to be read
abbrev pub texts_left : Texts → List (List ℕ)
texts_left reader = option_map_or (λ rest. texts_of rest.now) reader.rest []
