use Rattle.std.proofs.Common.{◌≡◌, ℕ, ◌+◌, ◌-◌, ◌*◌, List, [], ◌∷◌, ◌++◌, length, length-append, map, ap, ◌∙◌, sym, arith, append_assoc, append-nil}
use Rattle.std.specs.List.{flat_map}
use Rattle.card_sets.specs.Cards.{union}
use Rattle.card_sets.specs.Choose.{choose}
use Rattle.card_sets.proofs.CallerLemmas.{first_taken}
use Rattle.hand_choice.proofs.PushedChoices.{nothing, none_chosen, pairs, pairs-step, length-step, length-pairs}
use Rattle.hand_choice.proofs.choices.+push_pairs.Goals as goal

pub returns-in_default : goal.returns-in_default
returns-in_default t c =
    let none : choose c.args.missing c.args.rest ≡ [] = none_chosen c.args.missing c.args.rest c.if-missing-eq0.false (nothing c.args.rest (sym c.first.ensures.value ∙ c.in_default.is)) in
    rw none (sym (append-nil c.args.list.now))

pub push_pairs-requires : goal.push_pairs-requires
push_pairs-requires t c =
    let step = first_taken c.args.taken c.args.rest c.in-Some.card (c.requires.above c.first.ensures.set) c.first.ensures.set (sym c.first.ensures.value ∙ c.in-Some.is) in
    let first : c.args.rest ≡ c.in-Some.card ∷ c.without-others.result = step.first ∙ ap (λ cards. c.in-Some.card ∷ cards) (sym c.without-others.ensures) in
    let sizes : length (choose c.args.missing c.args.rest) * length c.args.threes.now ≡ (length (choose (c.args.missing - 1) c.without-others.result) + length (choose c.args.missing c.without-others.result)) * length c.args.threes.now =
    ap (λ n. n * length c.args.threes.now) (length-step c.args.rest c.without-others.result c.in-Some.card c.args.missing c.if-missing-eq0.false first) in
    (omega (arith, ap length first), (λ set. rw (c.with.ensures, c.without-others.ensures) step.above, omega (arith, sizes, c.requires.room)))

-- what stands in the list after the first call
longer : (old new : List (List ℕ)) (taken : List ℕ) (threes : List (List ℕ)) (ls : List (List ℕ)) → new ≡ old ++ flat_map (λ more. map (λ three. union (taken ++ more) three) threes) ls → length new ≡ length old + length ls * length threes
longer old new taken threes ls e = ap length e ∙ length-append old (flat_map (λ more. map (λ three. union (taken ++ more) three) threes) ls) ∙ ap (λ n. length old + n) (length-pairs taken threes ls)

pub push_pairs-requires-2 : goal.push_pairs-requires-2
push_pairs-requires-2 t c =
    let step = first_taken c.args.taken c.args.rest c.in-Some.card (c.requires.above c.first.ensures.set) c.first.ensures.set (sym c.first.ensures.value ∙ c.in-Some.is) in
    let first : c.args.rest ≡ c.in-Some.card ∷ c.without-others.result = step.first ∙ ap (λ cards. c.in-Some.card ∷ cards) (sym c.without-others.ensures) in
    let sizes : length (choose c.args.missing c.args.rest) * length c.args.threes.now ≡ (length (choose (c.args.missing - 1) c.without-others.result) + length (choose c.args.missing c.without-others.result)) * length c.args.threes.now =
    ap (λ n. n * length c.args.threes.now) (length-step c.args.rest c.without-others.result c.in-Some.card c.args.missing c.if-missing-eq0.false first) in
    let now = longer c.args.list.now c.push_pairs.new.list c.with.result c.args.threes.now (choose (c.args.missing - 1) c.without-others.result) c.push_pairs.ensures in
    (omega (arith, ap length first), (λ set. rw c.without-others.ensures step.left_out, omega (arith, sizes, now, c.requires.room)))

pub returns : goal.returns
returns t c =
    let step = first_taken c.args.taken c.args.rest c.in-Some.card (c.requires.above c.first.ensures.set) c.first.ensures.set (sym c.first.ensures.value ∙ c.in-Some.is) in
    let first : c.args.rest ≡ c.in-Some.card ∷ c.without-others.result = step.first ∙ ap (λ cards. c.in-Some.card ∷ cards) (sym c.without-others.ensures) in
    let one : c.push_pairs.new.list ≡ c.args.list.now ++ pairs (c.args.taken ++ c.in-Some.card ∷ []) c.args.threes.now (c.args.missing - 1) c.without-others.result =
    c.push_pairs.ensures ∙ ap (λ front. c.args.list.now ++ pairs front c.args.threes.now (c.args.missing - 1) c.without-others.result) (c.with.ensures ∙ step.more) in
    c.push_pairs-2.ensures ∙ ap (λ list. list ++ pairs c.args.taken c.args.threes.now c.args.missing c.without-others.result) one
    ∙ append_assoc c.args.list.now (pairs (c.args.taken ++ c.in-Some.card ∷ []) c.args.threes.now (c.args.missing - 1) c.without-others.result) (pairs c.args.taken c.args.threes.now c.args.missing c.without-others.result)
    ∙ ap (λ list. c.args.list.now ++ list) (sym (pairs-step c.args.taken c.args.threes.now c.args.rest c.without-others.result c.in-Some.card c.args.missing c.if-missing-eq0.false first))

pub push_unions-requires : goal.push_unions-requires
push_unions-requires t c =
    let one : length (choose c.args.missing c.args.rest) * length c.args.threes.now ≡ 1 * length c.args.threes.now = ap (λ n. length (choose n c.args.rest) * length c.args.threes.now) c.if-missing-eq0.true in
    omega (arith, one, c.requires.room)
