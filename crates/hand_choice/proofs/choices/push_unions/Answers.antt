use Rattle.std.proofs.Common.{◌≡◌, ℕ, suc, ◌+◌, ◌++◌, ◌∷◌, [], List, map, take, ap, ◌∙◌, sym, arith, append_assoc}
use Rattle.std.proofs.lemmas.List.{map-append}
use Rattle.card_sets.specs.Cards.{union}
use Rattle.hand_choice.proofs.PushedChoices.{take-next}
use Rattle.hand_choice.proofs.choices.push_unions.Goals as goal

-- one union more
one_more : (with other : List ℕ) (old list new others : List (List ℕ)) (place : ℕ) → list ≡ old ++ map (λ o. union with o) (take place others) → new ≡ list ++ union with other ∷ [] → take (suc place) others ≡ take place others ++ other ∷ []
    → new ≡ old ++ map (λ o. union with o) (take (place + 1) others)
one_more with other old list new others place e f next =
    let up : suc place ≡ place + 1 = omega arith in
    f ∙ ap (λ l. l ++ union with other ∷ []) e ∙ append_assoc old (map (λ o. union with o) (take place others)) (union with other ∷ [])
    ∙ ap (λ l. old ++ l) (sym (map-append (λ o. union with o) (take place others) (other ∷ [])) ∙ ap (map (λ o. union with o)) (sym next) ∙ ap (λ n. map (λ o. union with o) (take n others)) up)

pub loop-place-preserved : goal.loop-place-preserved
loop-place-preserved c =
    let next = take-next c.args.others.now c.loop-place.place c.in-Some.other (sym c.get.ensures.value ∙ c.in-Some.is) in
    record {
      within = omega (arith, next.1);
      pushed = one_more c.args.with c.in-Some.other c.args.list.now c.loop-place.list c.push.new.self c.args.others.now c.loop-place.place c.loop-place.invariant.pushed (c.push.ensures ∙ ap (λ u. c.loop-place.list ++ u ∷ []) c.union.ensures) next.0;
    }
