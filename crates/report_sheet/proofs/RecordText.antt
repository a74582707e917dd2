-- The text of a record, byte by byte and field by field.
use Rattle.std.proofs.Common.{◌≡◌, ℕ, ◌<◌, List, [], ◌∷◌, ◌++◌, length, false, refl, sym, ap, ◌∙◌, arith, append_assoc}
use Rattle.csv.specs.Writing.{default_writer, is_blank, row_body, row_text}

-- of two fields or more something shows, so that no quotes stand for them
not_blank : (fields : List (List ℕ)) → 1 < length fields → is_blank default_writer fields ≡ false
unfolding is_blank
not_blank [] some = absurd (omega arith)
not_blank (field ∷ []) some = absurd (omega arith)
not_blank (field ∷ next ∷ later) some = refl

-- the newline after the fields of a record
pub record_ends : (old : List ℕ) (fields : List (List ℕ)) → 1 < length fields → (old ++ row_body default_writer fields) ++ 10 ∷ [] ≡ old ++ row_text default_writer fields
record_ends old fields some = rw (not_blank fields some) (append_assoc old (row_body default_writer fields) (10 ∷ []))
