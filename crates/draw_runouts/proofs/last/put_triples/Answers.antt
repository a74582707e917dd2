use Rattle.std.proofs.Common.{◌≡◌, ◌-◌, ◌∷◌, [], ℕ, List, take, drop, length, map, ap, arith, refl, sym, ◌∙◌}
use Rattle.std.specs.List.{slice_range}
use Rattle.std.proofs.lemmas.List.{length-map}
use Rattle.card_sets.specs.Choose.{choose}
use Rattle.draw_runouts.specs.Worth.{number_at, number_of}
use Rattle.runout_walk.proofs.CallerLemmas.{two-first-length, range-none, length-range}
use Rattle.draw_runouts.proofs.DrawLists.{choices_length, choices_split, filling_begins, filling_ends, filling_goes_on, filling_room, first_split, no_list, three_numbers}
use Rattle.draw_runouts.proofs.last.put_triples.Goals as goal

pub loop-rest-init : goal.loop-rest-init
loop-rest-init c = record {
  way = λ rows. filling_begins (number_of rows c.args.planes.now) [] (slice_range (choose 3 c.args.cards.now) c.args.range.lo c.args.range.hi) 0 c.args.values.now refl refl;
  room = refl;
  order = c.requires.order;
  inside = c.requires.inside;
  few = c.requires.few;
  pairs = c.count_pairs-pairs.ensures;
}

pub overflow_sub-count : goal.overflow_sub-count
overflow_sub-count c =
    let rest = c.loop-rest.rest.now in
    let pairs = c.loop-rest.invariant.pairs in
    let others : List ℕ = take (length rest - 1) (drop 1 rest) in
    let first : rest ≡ c.low-item.result ∷ others = first_split rest c.low-item.result _ c.in-len1-up.len_at_least c.low-item.is in
    omega (arith, pairs, two-first-length c.low-item.result rest others first)

pub put_pairs-requires-clause-order : goal.put_pairs-requires-clause-order
put_pairs-requires-clause-order c =
    let order = c.loop-rest.invariant.order in
    omega (arith, c.min-start.ensures, c.min-end.ensures, order)

pub put_pairs-requires-clause-inside : goal.put_pairs-requires-clause-inside
put_pairs-requires-clause-inside c =
    let rest = c.loop-rest.rest.now in
    let pairs = c.loop-rest.invariant.pairs in
    let others : List ℕ = take (length rest - 1) (drop 1 rest) in
    let first : rest ≡ c.low-item.result ∷ others = first_split rest c.low-item.result _ c.in-len1-up.len_at_least c.low-item.is in
    let count : ℕ = c.loop-rest.pairs - length others in
    let count_is : count ≡ length (choose 2 others) = omega (arith, pairs, two-first-length c.low-item.result rest others first) in
    omega (arith, c.min-end.ensures, count_is)

pub put_pairs-requires-clause-room : goal.put_pairs-requires-clause-room
put_pairs-requires-clause-room c =
    let rest = c.loop-rest.rest.now in
    let inv = c.loop-rest.invariant in
    let others : List ℕ = take (length rest - 1) (drop 1 rest) in
    let first : rest ≡ c.low-item.result ∷ others = first_split rest c.low-item.result _ c.in-len1-up.len_at_least c.low-item.is in
    let pairs = inv.pairs in
    let count : ℕ = c.loop-rest.pairs - length others in
    let count_is : count ≡ length (choose 2 others) = omega (arith, pairs, two-first-length c.low-item.result rest others first) in
    let part : List (List ℕ) = slice_range (choose 2 others) c.min-start.result c.min-end.result in
    let split = choices_split 2 c.low-item.result rest others count c.loop-rest.lo c.loop-rest.hi c.min-start.result c.min-end.result _ _ first count_is c.min-start.ensures c.min-end.ensures refl refl in
    let fits = filling_room _ _ _ _ (map (λ draw. c.low-item.result ∷ draw) part) _ c.loop-rest.used c.loop-rest.values (inv.way []) split in
    let order = inv.order in
    let size : length part ≡ c.min-end.result - c.min-start.result = length-range (choose 2 others) c.min-start.result c.min-end.result (omega (arith, c.min-start.ensures, c.min-end.ensures, order)) (omega (arith, c.min-end.ensures, count_is)) in
    let whole : length (slice_range (choose 3 c.args.cards.now) c.args.range.lo c.args.range.hi) ≡ c.args.range.hi - c.args.range.lo = length-range (choose 3 c.args.cards.now) c.args.range.lo c.args.range.hi c.requires.order c.requires.inside in
    let room = c.requires.room in
    let same = inv.room in
    omega (arith, fits, whole, room, same, size, length-map part (λ draw. c.low-item.result ∷ draw))

pub overflow_add-used : goal.overflow_add-used
overflow_add-used c =
    let rest = c.loop-rest.rest.now in
    let inv = c.loop-rest.invariant in
    let others : List ℕ = take (length rest - 1) (drop 1 rest) in
    let first : rest ≡ c.low-item.result ∷ others = first_split rest c.low-item.result _ c.in-len1-up.len_at_least c.low-item.is in
    let pairs = inv.pairs in
    let count : ℕ = c.loop-rest.pairs - length others in
    let count_is : count ≡ length (choose 2 others) = omega (arith, pairs, two-first-length c.low-item.result rest others first) in
    let part : List (List ℕ) = slice_range (choose 2 others) c.min-start.result c.min-end.result in
    let split = choices_split 2 c.low-item.result rest others count c.loop-rest.lo c.loop-rest.hi c.min-start.result c.min-end.result _ _ first count_is c.min-start.ensures c.min-end.ensures refl refl in
    let fits = filling_room _ _ _ _ (map (λ draw. c.low-item.result ∷ draw) part) _ c.loop-rest.used c.loop-rest.values (inv.way []) split in
    let order = inv.order in
    let size : length part ≡ c.min-end.result - c.min-start.result = length-range (choose 2 others) c.min-start.result c.min-end.result (omega (arith, c.min-start.ensures, c.min-end.ensures, order)) (omega (arith, c.min-end.ensures, count_is)) in
    let whole : length (slice_range (choose 3 c.args.cards.now) c.args.range.lo c.args.range.hi) ≡ c.args.range.hi - c.args.range.lo = length-range (choose 3 c.args.cards.now) c.args.range.lo c.args.range.hi c.requires.order c.requires.inside in
    let room = c.requires.room in
    let same = inv.room in
    omega (arith, fits, whole, room, same, size, length-map part (λ draw. c.low-item.result ∷ draw))

pub loop-rest-preserved : goal.loop-rest-preserved
loop-rest-preserved c =
    let rest = c.loop-rest.rest.now in
    let inv = c.loop-rest.invariant in
    let others : List ℕ = take (length rest - 1) (drop 1 rest) in
    let first : rest ≡ c.low-item.result ∷ others = first_split rest c.low-item.result _ c.in-len1-up.len_at_least c.low-item.is in
    let pairs = inv.pairs in
    let count : ℕ = c.loop-rest.pairs - length others in
    let count_is : count ≡ length (choose 2 others) = omega (arith, pairs, two-first-length c.low-item.result rest others first) in
    let part : List (List ℕ) = slice_range (choose 2 others) c.min-start.result c.min-end.result in
    let split = choices_split 2 c.low-item.result rest others count c.loop-rest.lo c.loop-rest.hi c.min-start.result c.min-end.result c.saturating_sub-lo.result c.saturating_sub-hi.result first count_is c.min-start.ensures c.min-end.ensures c.saturating_sub-lo.ensures c.saturating_sub-hi.ensures in
    let order = inv.order in
    let inside = inv.inside in
    let few = inv.few in
    let size : length part ≡ c.min-end.result - c.min-start.result = length-range (choose 2 others) c.min-start.result c.min-end.result (omega (arith, c.min-start.ensures, c.min-end.ensures, order)) (omega (arith, c.min-end.ensures, count_is)) in
    record {
      way = λ rows. filling_goes_on (number_of rows c.args.planes.now) _ _ _ (map (λ draw. c.low-item.result ∷ draw) part) _ c.loop-rest.used (c.min-end.result - c.min-start.result) _ c.loop-rest.values c.put_pairs.new.values
          (map (number_at c.args.planes.now c.plane_base-base.result) part) (inv.way rows) split (sym (length-map part _ ∙ size)) (three_numbers rows c.args.planes.now c.low-item.result c.plane_base-base.result others c.min-start.result c.min-end.result c.plane_base-base.ensures.value) c.put_pairs.ensures.numbers (omega arith);
      room = c.put_pairs.ensures.room ∙ inv.room;
      order = omega (arith, c.saturating_sub-lo.ensures, c.saturating_sub-hi.ensures, order);
      inside = omega (arith, c.saturating_sub-hi.ensures, inside, choices_length 2 c.low-item.result rest others first, count_is);
      few = omega (arith, ap length first, few);
      pairs = count_is;
    }

pub returns : goal.returns
returns c =
    let inv = c.loop-rest.invariant in
    let none : c.loop-rest.rest.now ≡ [] = no_list c.loop-rest.rest.now c.in_default.len_below in
    let todo : slice_range (choose 3 c.loop-rest.rest.now) c.loop-rest.lo c.loop-rest.hi ≡ [] = ap (λ l. slice_range (choose 3 l) c.loop-rest.lo c.loop-rest.hi) none ∙ range-none c.loop-rest.lo c.loop-rest.hi in
    let ends = (λ (rows : List (List ℕ)). filling_ends (number_of rows c.args.planes.now) _ _ _ c.loop-rest.used c.loop-rest.values (inv.way rows) todo) in
    let whole : length (slice_range (choose 3 c.args.cards.now) c.args.range.lo c.args.range.hi) ≡ c.args.range.hi - c.args.range.lo = length-range (choose 3 c.args.cards.now) c.args.range.lo c.args.range.hi c.requires.order c.requires.inside in
    let all : c.loop-rest.used ≡ c.args.range.hi - c.args.range.lo = (let u = (ends []).0 in omega (arith, u, whole)) in
    record {
      numbers = λ rows. ap (λ n. take n c.loop-rest.values) (sym all) ∙ (ends rows).1;
      room = inv.room;
    }
