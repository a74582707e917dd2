use Rattle.std.proofs.Common.{◌≡◌, ◌∙◌, ℕ, List, [], ◌∷◌, refl, sym, length, arith}
use Rattle.std.proofs.lemmas.Bool.{eqb-true}
use Rattle.betting_replay.proofs.lemmas.places.NextPlaces.{nothing_given}
use Rattle.betting_replay.proofs.places.with_named.Goals as goal

no_items : (xs : List ℕ) → length xs ≡ 0 → xs ≡ []
no_items [] e = refl
no_items (x ∷ xs) e = absurd (omega (arith, e))

pub returns-then-is_empty : goal.returns-then-is_empty
returns-then-is_empty c =
    let named : List ℕ = c.cards_named-named.result.now in
    let none : named ≡ [] = no_items named (eqb-true (length named) 0 (sym c.is_empty.ensures ∙ c.if-is_empty.true)) in
    sym (nothing_given c.args.game c.args.e.now c.args.cards c.rising.ensures.set (sym c.cards_named-named.ensures ∙ none))
