use Rattle.std.proofs.Common.{◌∙◌, sym, arith}
use Rattle.board_runouts.specs.Fronts.{front_deal}
use Rattle.board_runouts.proofs.FrontFacts.{place_inside, scene_with}
use Rattle.board_runouts.proofs.PairCounts.{row_counted, row_pair}
use Rattle.board_runouts.proofs.board_leaf.count_pair.Goals as goal

pub put_runout-requires-clause-inside : goal.put_runout-requires-clause-inside
put_runout-requires-clause-inside c = place_inside c.args.front.now c.args.pair.now c.from.result c.requires.member c.from.ensures

pub returns-in_default-clause-counts : goal.returns-in_default-clause-counts
returns-in_default-clause-counts c = record {
  counted = row_counted (front_deal c.args.front.now) c.args.front.now.taken c.args.front.now.rows.now c.args.pair.now c.from.result c.args.counts.now c.put_runout.new.counts (c.args.front.now.pots ∙ sym c.args.front.now.spot.now.pots)
      (λ pot side row p found. row_pair (front_deal c.args.front.now) pot c.args.front.now.taken c.args.pair.now c.from.result row side c.law_values_keep_order.ensures (scene_with c.args.front.now c.args.pair.now c.requires.member) (c.all_are_hands.ensures pot (let n = c.args.front.now.spot.now.pots in omega arith)) (c.args.front.now.rows_are pot row found) (c.from.ensures ∙ c.args.pair.now.by_rank) c.in_default.ensures)
      c.put_runout.ensures.counts;
  rows = c.put_runout.ensures.same;
}
