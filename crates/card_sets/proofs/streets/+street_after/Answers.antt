use Rattle.std.proofs.Common.{◌≡◌, ◌≤◌, ◌-◌, List, [], ◌∷◌, length, take, drop, refl, arith, ◌∙◌, sym, Bool, true, false}
use Rattle.std.specs.Prelude.{slice_index_or, slice_get, if◌then◌else◌}
use Rattle.std.proofs.lemmas.List.{take_all}
use Rattle.card_sets.specs.declared.streets.Street.{Street}
use Rattle.card_sets.specs.declared.streets.Street.TheVariants.{First}
use Rattle.card_sets.specs.Streets.{street_after, is_street}
use Rattle.card_sets.proofs.streets.+street_after.Goals as goal

after : (street : Street) (xs : List Street) (same : Bool) → 1 ≤ length xs → is_street street (slice_index_or xs 0 First) ≡ same
    → (let rest : List Street = take (length xs - 1) (drop 1 xs) in (if same then slice_get rest 0 else street_after street rest)) ≡ street_after street xs
after street [] same some e = absurd (omega arith)
after street (x ∷ xs) same some e =
    let all : take (length (x ∷ xs) - 1) xs ≡ xs = take_all (length (x ∷ xs) - 1) xs (omega arith) in
    rw (all, e) refl

pub returns-then-is_street : goal.returns-then-is_street
returns-then-is_street t c = c.first_of.ensures ∙ after c.args.street c.args.streets.now true c.in-len1-up.len_at_least (sym c.is_street.ensures ∙ c.if-is_street.true)

pub returns-else-is_street : goal.returns-else-is_street
returns-else-is_street t c = c.street_after.ensures ∙ after c.args.street c.args.streets.now false c.in-len1-up.len_at_least (sym c.is_street.ensures ∙ c.if-is_street.false)
