use Rattle.std.proofs.Common.{◌≡◌, ℕ, zero, suc, ◌+◌, ◌-◌, ◌<◌, List, [], ◌∷◌, ◌∙◌, sym, ap, refl, true, false, arith, length, drop, get_or, drop-cons, ◌≤◌}
use Rattle.std.proofs.lemmas.List.{drop_all}
use Rattle.card_sets.specs.Cards.{has_card, with_card, union, IsCardSet}
use Rattle.betting_replay.specs.Known.{first_outside}
use Rattle.card_sets.proofs.CallerLemmas.{union-nil, union-front}
use Rattle.betting_replay.proofs.known.with_two.Goals as goal

-- the cards left to take from a row, of which the first is looked at
taken : (all others row : List ℕ) (left i x : ℕ) → i < length row → x ≡ get_or row i x → 0 < left → has_card others x ≡ false → union all (first_outside left others (drop i row)) ≡ union (with_card all x) (first_outside (left - 1) others (drop (i + 1) row))
taken all others row zero i x l item pos not = absurd (omega arith)
taken all others row (suc n) i x l item pos not =
    let d : drop i row ≡ x ∷ drop (i + 1) row = (let up : i + 1 ≡ suc i = omega arith in rw up (drop-cons row i x l ∙ ap (λ y. y ∷ drop (suc i) row) (sym item))) in
    let less : suc n - 1 ≡ n = omega arith in
    rw (d, not, less) (union-front all (first_outside n others (drop (i + 1) row)) x)

passed : (all others row : List ℕ) (left i x : ℕ) → i < length row → x ≡ get_or row i x → has_card others x ≡ true → union all (first_outside left others (drop i row)) ≡ union all (first_outside left others (drop (i + 1) row))
passed all others row zero i x l item has = refl
passed all others row (suc n) i x l item has =
    let d : drop i row ≡ x ∷ drop (i + 1) row = (let up : i + 1 ≡ suc i = omega arith in rw up (drop-cons row i x l ∙ ap (λ y. y ∷ drop (suc i) row) (sym item))) in
    rw (d, has) refl

none_left : (all others row : List ℕ) (left i j : ℕ) → left ≡ 0 → union all (first_outside left others (drop i row)) ≡ union all (first_outside left others (drop j row))
none_left all others row left i j none = rw none refl

pub loop-card-preserved-then-left-eq0 : goal.loop-card-preserved-then-left-eq0
loop-card-preserved-then-left-eq0 c = c.loop-card.invariant ∙ none_left c.loop-card.all c.args.others c.args.row.now c.loop-card.left c.loop-card.card-index (c.loop-card.card-index + 1) (omega arith)

pub loop-card-preserved-then-has : goal.loop-card-preserved-then-has
loop-card-preserved-then-has c = c.loop-card.invariant ∙ passed c.loop-card.all c.args.others c.args.row.now c.loop-card.left c.loop-card.card-index c.card-item.result c.loop-card-test.true c.card-item.is (sym c.has.ensures ∙ c.if-has.true)

pub loop-card-preserved : goal.loop-card-preserved
loop-card-preserved c =
    c.loop-card.invariant
    ∙ taken c.loop-card.all c.args.others c.args.row.now c.loop-card.left c.loop-card.card-index c.card-item.result c.loop-card-test.true c.card-item.is (omega arith) (sym c.has.ensures ∙ c.if-has.false)
    ∙ ap (λ a. union a (first_outside (c.loop-card.left - 1) c.args.others (drop (c.loop-card.card-index + 1) c.args.row.now))) (sym c.with-all.ensures)

-- nothing is left of the row
none_more : (all others row : List ℕ) (left i : ℕ) → IsCardSet all → length row ≤ i → union all (first_outside left others (drop i row)) ≡ all
none_more all others row zero i set end = union-nil all set
none_more all others row (suc n) i set end = let gone : drop i row ≡ [] = drop_all i row end in rw gone (union-nil all set)

pub returns : goal.returns
returns c = sym (c.loop-card.invariant ∙ none_more c.loop-card.all c.args.others c.args.row.now c.loop-card.left c.loop-card.card-index c.rising.ensures.set c.loop-card-test.false)
