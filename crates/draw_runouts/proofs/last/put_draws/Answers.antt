use Rattle.std.proofs.Common.{◌≡◌, ◌≤◌, ◌<◌, ℕ, List, length, map, ap, ◌∙◌, arith}
use Rattle.std.specs.List.{slice_range}
use Rattle.card_sets.specs.Choose.{choose}
use Rattle.draw_runouts.specs.Worth.{number_of}
use Rattle.draw_runouts.proofs.last.put_draws.Goals as goal

pub returns-then-numbers-eq1-clause-numbers : goal.returns-then-numbers-eq1-clause-numbers
returns-then-numbers-eq1-clause-numbers c =
    let numbers = c.args.numbers.now in
    let rows : List (List ℕ) = numbers.rows.items in
    let planes : List (List ℕ) = numbers.planes.items in
    let size : 1 ≡ numbers.count = (let t = c.if-numbers-eq1.true in omega arith) in
    c.put_singles.ensures.numbers planes ∙ ap (λ r. map (number_of r planes) (slice_range (choose 1 c.args.cards.now) c.args.range.lo c.args.range.hi)) c.as_slice-rows.ensures.value
    ∙ ap (λ n. map (number_of rows planes) (slice_range (choose n c.args.cards.now) c.args.range.lo c.args.range.hi)) size

pub returns-then-numbers-eq2-clause-numbers : goal.returns-then-numbers-eq2-clause-numbers
returns-then-numbers-eq2-clause-numbers c =
    let numbers = c.args.numbers.now in
    let rows : List (List ℕ) = numbers.rows.items in
    let planes : List (List ℕ) = numbers.planes.items in
    let size : 2 ≡ numbers.count = (let t = c.if-numbers-eq2.true in omega arith) in
    c.put_twos.ensures.numbers planes ∙ ap (λ r. map (number_of r planes) (slice_range (choose 2 c.args.cards.now) c.args.range.lo c.args.range.hi)) c.as_slice-rows.ensures.value
    ∙ ap (λ n. map (number_of rows planes) (slice_range (choose n c.args.cards.now) c.args.range.lo c.args.range.hi)) size

pub returns-else-numbers-eq2-clause-numbers : goal.returns-else-numbers-eq2-clause-numbers
returns-else-numbers-eq2-clause-numbers c =
    let numbers = c.args.numbers.now in
    let rows : List (List ℕ) = numbers.rows.items in
    let planes : List (List ℕ) = numbers.planes.items in
    let some : 1 ≤ numbers.count = c.requires.some in
    let few : numbers.count ≤ 3 = c.requires.few in
    let size : 3 ≡ numbers.count = (let t = c.if-numbers-eq2.false in let u = c.if-numbers-eq1.false in omega arith) in
    c.put_triples.ensures.numbers rows ∙ ap (λ p. map (number_of rows p) (slice_range (choose 3 c.args.cards.now) c.args.range.lo c.args.range.hi)) c.as_slice-planes.ensures.value
    ∙ ap (λ n. map (number_of rows planes) (slice_range (choose n c.args.cards.now) c.args.range.lo c.args.range.hi)) size

pub put_triples-requires-clause-places : goal.put_triples-requires-clause-places
put_triples-requires-clause-places c =
    let numbers = c.args.numbers.now in
    let some : 1 ≤ numbers.count = c.requires.some in
    let three : 2 < numbers.count = (let t = c.if-numbers-eq2.false in let u = c.if-numbers-eq1.false in omega arith) in
    ap length c.as_slice-planes.ensures.value ∙ numbers.plane_places three
