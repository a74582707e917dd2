use Rattle.std.proofs.Common.{◌≡◌, ◌-◌, ◌+◌, ◌∷◌, [], ℕ, List, take, drop, length, map, ap, arith, refl, sym, ◌∙◌}
use Rattle.std.specs.Prelude.{slice_index, slice_index_or}
use Rattle.std.specs.List.{slice_range}
use Rattle.std.proofs.lemmas.List.{length-map, length-take}
use Rattle.card_sets.specs.Choose.{choose}
use Rattle.draw_runouts.specs.Worth.{number_at}
use Rattle.runout_walk.proofs.CallerLemmas.{two-first-length, range-none, length-range}
use Rattle.draw_runouts.proofs.DrawLists.{filling_begins, filling_ends, filling_goes_on, filling_room, first_split, no_list, pair_numbers, pairs_split, pairs_with}
use Rattle.draw_runouts.proofs.last.put_pairs.Goals as goal

pub loop-rest-init : goal.loop-rest-init
loop-rest-init c =
    let room = c.requires.room in
    record {
      way = filling_begins (number_at c.args.rows.now c.args.base) (take c.args.used c.args.values.now) (slice_range (choose 2 c.args.cards.now) c.args.range.lo c.args.range.hi) c.args.used c.args.values.now (omega (arith, room, length-take c.args.used c.args.values.now)) refl;
      room = refl;
      order = c.requires.order;
      inside = c.requires.inside;
    }

pub put_row-requires-clause-room : goal.put_row-requires-clause-room
put_row-requires-clause-room c =
    let rest = c.loop-rest.rest.now in
    let inv = c.loop-rest.invariant in
    let highs : List ℕ = take (length rest - 1) (drop 1 rest) in
    let first : rest ≡ c.low-item.result ∷ highs = first_split rest c.low-item.result _ c.in-len1-up.len_at_least c.low-item.is in
    let part : List ℕ = slice_range highs c.min-start.result c.min-end.result in
    let split = pairs_split c.low-item.result rest highs c.loop-rest.lo c.loop-rest.hi c.min-start.result c.min-end.result _ _ first c.min-start.ensures c.min-end.ensures refl refl in
    let fits = filling_room _ _ _ _ (pairs_with c.low-item.result part) _ c.loop-rest.used c.loop-rest.values inv.way split in
    let whole : length (slice_range (choose 2 c.args.cards.now) c.args.range.lo c.args.range.hi) ≡ c.args.range.hi - c.args.range.lo = length-range (choose 2 c.args.cards.now) c.args.range.lo c.args.range.hi c.requires.order c.requires.inside in
    let room = c.requires.room in
    let same = inv.room in
    omega (arith, fits, whole, room, same, length-take c.args.used c.args.values.now, length-map part (λ high. c.low-item.result ∷ high ∷ []))

pub loop-rest-preserved : goal.loop-rest-preserved
loop-rest-preserved c =
    let rest = c.loop-rest.rest.now in
    let inv = c.loop-rest.invariant in
    let highs : List ℕ = take (length rest - 1) (drop 1 rest) in
    let first : rest ≡ c.low-item.result ∷ highs = first_split rest c.low-item.result _ c.in-len1-up.len_at_least c.low-item.is in
    let part : List ℕ = slice_range highs c.min-start.result c.min-end.result in
    let split = pairs_split c.low-item.result rest highs c.loop-rest.lo c.loop-rest.hi c.min-start.result c.min-end.result c.saturating_sub-lo.result c.saturating_sub-hi.result first c.min-start.ensures c.min-end.ensures c.saturating_sub-lo.ensures c.saturating_sub-hi.ensures in
    let order = inv.order in
    let inside = inv.inside in
    let size : length part ≡ c.min-end.result - c.min-start.result = length-range highs c.min-start.result c.min-end.result (omega (arith, c.min-start.ensures, c.min-end.ensures, order)) (omega (arith, c.min-end.ensures)) in
    let same : c.from.result ≡ c.low-item.result = c.from.ensures ∙ c.number.ensures.value in
    record {
      way = filling_goes_on (number_at c.args.rows.now c.args.base) _ _ _ (pairs_with c.low-item.result part) _ c.loop-rest.used (length part) _ c.loop-rest.values c.put_row.new.values (map (slice_index (slice_index_or c.args.rows.now (c.args.base + c.from.result) [])) part)
          inv.way split (sym (length-map part _)) (pair_numbers c.args.rows.now c.args.base c.low-item.result c.from.result part same) c.put_row.ensures.numbers (omega (arith, size));
      room = c.put_row.ensures.room ∙ inv.room;
      order = omega (arith, c.saturating_sub-lo.ensures, c.saturating_sub-hi.ensures, order);
      inside = omega (arith, c.saturating_sub-hi.ensures, inside, two-first-length c.low-item.result rest highs first);
    }

pub returns : goal.returns
returns c =
    let inv = c.loop-rest.invariant in
    let none : c.loop-rest.rest.now ≡ [] = no_list c.loop-rest.rest.now c.in_default.len_below in
    let todo : slice_range (choose 2 c.loop-rest.rest.now) c.loop-rest.lo c.loop-rest.hi ≡ [] = ap (λ l. slice_range (choose 2 l) c.loop-rest.lo c.loop-rest.hi) none ∙ range-none c.loop-rest.lo c.loop-rest.hi in
    let ends = filling_ends _ _ _ _ c.loop-rest.used c.loop-rest.values inv.way todo in
    let whole : length (slice_range (choose 2 c.args.cards.now) c.args.range.lo c.args.range.hi) ≡ c.args.range.hi - c.args.range.lo = length-range (choose 2 c.args.cards.now) c.args.range.lo c.args.range.hi c.requires.order c.requires.inside in
    let room = c.requires.room in
    let all : c.loop-rest.used ≡ c.args.used + (c.args.range.hi - c.args.range.lo) = (let u = ends.0 in omega (arith, u, whole, room, length-take c.args.used c.args.values.now)) in
    record {
      numbers = ap (λ n. take n c.loop-rest.values) (sym all) ∙ ends.1;
      room = inv.room;
    }
