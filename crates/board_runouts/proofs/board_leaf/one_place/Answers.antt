use Rattle.std.proofs.Common.{◌∙◌, refl, sym, ap, subst}
use Rattle.std.specs.Prelude.{slice_index}
use Rattle.card_sets.specs.declared.games.Side.TheVariants.{High}
use Rattle.board_runouts.specs.Fronts.{front_deal}
use Rattle.board_runouts.specs.KeptRows.{IsRowFor}
use Rattle.board_runouts.specs.declared.row.Row.{Row}
use Rattle.board_runouts.proofs.FrontFacts.{place_inside, row_at, scene_with, suited_for}
use Rattle.board_runouts.proofs.PairCounts.{row_pair}
use Rattle.board_runouts.proofs.board_leaf.one_place.Goals as goal

pub bounds-row-from : goal.bounds-row-from
bounds-row-from c = place_inside c.args.front.now c.args.pair.now c.from.result c.requires.member c.from.ensures

pub returns-in_default-clause-value : goal.returns-in_default-clause-value
returns-in_default-clause-value c =
    ap (λ (row : Row). slice_index row.mains c.from.result) (sym c.index-front-0.is)
    ∙ row_pair (front_deal c.args.front.now) 0 c.args.front.now.taken c.args.pair.now c.from.result c.index-front-0.result High c.law_values_keep_order.ensures (scene_with c.args.front.now c.args.pair.now c.requires.member) c.are_hands.ensures (row_at c.args.front.now 0 0 c.index-front-0.result refl c.requires.pot c.index-front-0.is) (c.from.ensures ∙ c.args.pair.now.by_rank) c.in_default.ensures

pub ready-at-requires-clause-suited : goal.ready-at-requires-clause-suited
ready-at-requires-clause-suited c = suited_for c.args.front.now c.args.pair.now c.in-Some.part c.requires.member c.in-Some.ensures

pub suited_place-requires-clause-flush : goal.suited_place-requires-clause-flush
suited_place-requires-clause-flush c = c.ready-at.ensures.there c.flush_at-flush.result.now c.flush_at-flush.ensures

pub suited_place-requires-clause-row : goal.suited_place-requires-clause-row
suited_place-requires-clause-row c =
    subst (IsRowFor (front_deal c.args.front.now) 0 c.args.front.now.taken) c.index-front-0-2.is (row_at c.args.front.now 0 0 c.index-front-0-2.result refl c.requires.pot c.index-front-0-2.is)
