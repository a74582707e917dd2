use Rattle.std.proofs.Common.{◌∷◌, ◌++◌, [], List, ℕ, arith}
use Rattle.std.specs.Prelude.{slice_index}
use Rattle.card_sets.specs.State.{state_of}
use Rattle.board_runouts.specs.Fronts.{front_deal}
use Rattle.board_runouts.specs.Highs.{high_of}
use Rattle.board_runouts.specs.Pairs.{cards_of_pair}
use Rattle.board_runouts.proofs.BoardDealt.{board_for, each_main, flush_main, high_with, less_main}
use Rattle.board_runouts.proofs.FrontFacts.{best_at, best_with, place_inside, scene_with}
use Rattle.board_runouts.proofs.suited.suited_place.Goals as goal

pub bounds-row-place : goal.bounds-row-place
bounds-row-place c = place_inside c.args.front.now c.args.pair.now c.from-place.result c.requires.member c.from-place.ensures

pub bounds-row-place-2 : goal.bounds-row-place-2
bounds-row-place-2 c = place_inside c.args.front.now c.args.pair.now c.from-place.result c.requires.member c.from-place.ensures

pub bounds-row-place-3 : goal.bounds-row-place-3
bounds-row-place-3 c = place_inside c.args.front.now c.args.pair.now c.from-place.result c.requires.member c.from-place.ensures

pub high_set-requires-clause-full : goal.high_set-requires-clause-full
high_set-requires-clause-full c = board_for (state_of c.args.front.now.spot.now.table.known) (c.args.front.now.taken ++ cards_of_pair c.args.pair.now) c.args.part.now.board (scene_with c.args.front.now c.args.pair.now c.requires.member) c.requires.part.board_is

pub returns-then-best-top-clause-main : goal.returns-then-best-top-clause-main
returns-then-best-top-clause-main c =
    let best = best_with c.args.front.now c.args.pair.now c.args.pot c.from-place.result c.args.row.now c.requires.member c.requires.row c.from-place.ensures in
    let top = (best_at c.args.front.now c.args.part.now c.args.flush.now c.args.pot c.from-at.result c.from-at.ensures c.requires.pot c.requires.flush).greatest in
    less_main (front_deal c.args.front.now) c.args.pot (c.args.front.now.taken ++ cards_of_pair c.args.pair.now) c.args.part.now.board c.args.part.now.cards c.args.part.now.suit (slice_index c.args.row.now.mains c.from-place.result) (slice_index c.args.row.now.lows c.from-place.result) (slice_index c.args.row.now.tops c.from-place.result) c.law_values_keep_order.ensures (scene_with c.args.front.now c.args.pair.now c.requires.member) c.are_hands.ensures best c.requires.part (omega (arith, top, c.if-best-top.true))

pub returns-then-top-best-clause-main : goal.returns-then-top-best-clause-main
returns-then-top-best-clause-main c =
    let best = best_with c.args.front.now c.args.pair.now c.args.pot c.from-place.result c.args.row.now c.requires.member c.requires.row c.from-place.ensures in
    let flush = best_at c.args.front.now c.args.part.now c.args.flush.now c.args.pot c.from-at.result c.from-at.ensures c.requires.pot c.requires.flush in
    let top = flush.greatest in
    flush_main (front_deal c.args.front.now) c.args.pot (c.args.front.now.taken ++ cards_of_pair c.args.pair.now) c.args.part.now.board c.args.part.now.cards c.args.part.now.suit (slice_index c.args.row.now.mains c.from-place.result) (slice_index c.args.row.now.lows c.from-place.result) (slice_index c.args.row.now.tops c.from-place.result) (slice_index c.args.flush.now.sets c.from-at.result) c.low_mark-mark.result c.law_values_keep_order.ensures (scene_with c.args.front.now c.args.pair.now c.requires.member) c.are_hands.ensures best c.requires.part
    (omega (arith, top, c.if-top-best.true)) (flush.winners (omega (arith, c.if-top-best.true))) c.low_mark-mark.ensures.value

pub returns-clause-main : goal.returns-clause-main
returns-clause-main c =
    let set : List ℕ = c.args.front.now.taken ++ cards_of_pair c.args.pair.now in
    let best = best_with c.args.front.now c.args.pair.now c.args.pot c.from-place.result c.args.row.now c.requires.member c.requires.row c.from-place.ensures in
    each_main (front_deal c.args.front.now) c.args.pot set (slice_index c.args.row.now.mains c.from-place.result) (slice_index c.args.row.now.lows c.from-place.result) (slice_index c.args.row.now.tops c.from-place.result) c.high_set.result c.low_mark-mark.result c.law_values_keep_order.ensures (scene_with c.args.front.now c.args.pair.now c.requires.member) c.are_hands.ensures best
    (c.high_set.ensures.set (high_of (state_of c.args.front.now.spot.now.table.known) (set ∷ [])) (λ h l. high_with (state_of c.args.front.now.spot.now.table.known) set c.args.part.now.board h (scene_with c.args.front.now c.args.pair.now c.requires.member) c.requires.part.board_is l)) c.low_mark-mark.ensures.value

pub returns-then-best-top-clause-low : goal.returns-then-best-top-clause-low
returns-then-best-top-clause-low c = (best_with c.args.front.now c.args.pair.now c.args.pot c.from-place.result c.args.row.now c.requires.member c.requires.row c.from-place.ensures).low_set

pub returns-then-top-best-clause-low : goal.returns-then-top-best-clause-low
returns-then-top-best-clause-low c = (best_with c.args.front.now c.args.pair.now c.args.pot c.from-place.result c.args.row.now c.requires.member c.requires.row c.from-place.ensures).low_set

pub returns-clause-low : goal.returns-clause-low
returns-clause-low c = (best_with c.args.front.now c.args.pair.now c.args.pot c.from-place.result c.args.row.now c.requires.member c.requires.row c.from-place.ensures).low_set
