use Rattle.draw_runouts.proofs.DrawPairs.{high_parts, least_parts, low_parts, most_parts, parts_orders, parts_within, three_parts}
use Rattle.draw_runouts.proofs.pairs.pair_orders_at.Goals as goal

pub orders_of-high-requires : goal.orders_of-high-requires
orders_of-high-requires c =
    let within = parts_within _ _ _ _ _ _ _ _ (high_parts c.args.highs.now c.args.lows.now c.args.at c.args.values.now c.args.low_values.now c.args.sums.now c.requires.sums c.requires.each) in
    record { most = within.most_in; least = within.least_in; each = within.each }

pub orders_of-most-requires : goal.orders_of-most-requires
orders_of-most-requires c =
    let within = parts_within _ _ _ _ _ _ _ _ (most_parts c.args.highs.now c.args.lows.now c.args.at c.args.values.now c.args.low_values.now c.args.sums.now c.requires.sums) in
    record { most = within.most_in; least = within.least_in; each = within.each }

pub orders_of-least-requires : goal.orders_of-least-requires
orders_of-least-requires c =
    let within = parts_within _ _ _ _ _ _ _ _ (least_parts c.args.highs.now c.args.lows.now c.args.at c.args.values.now c.args.low_values.now c.args.sums.now c.requires.sums) in
    record { most = within.most_in; least = within.least_in; each = within.each }

pub orders_of-all-requires : goal.orders_of-all-requires
orders_of-all-requires c =
    let within = parts_within _ _ _ _ _ _ _ _ (low_parts c.args.highs.now c.args.lows.now c.args.at c.args.values.now c.args.low_values.now c.args.sums.now c.requires.sums c.requires.each) in
    record { most = within.most_in; least = within.least_in; each = within.each }

pub orders_of-below-requires : goal.orders_of-below-requires
orders_of-below-requires c =
    let parts = three_parts c.args.highs.now c.args.lows.now c.args.at c.args.values.now c.args.low_values.now c.args.sums.now c.orders_of-high.result c.orders_of-most.result c.orders_of-least.result c.requires.sums c.requires.each
    c.orders_of-high.ensures.below c.orders_of-high.ensures.above c.orders_of-high.ensures.all c.orders_of-most.ensures.below c.orders_of-most.ensures.above c.orders_of-most.ensures.all c.orders_of-least.ensures.below c.orders_of-least.ensures.above c.orders_of-least.ensures.all in
    let within = parts_within _ _ _ _ _ _ _ _ parts.below in
    record { most = within.most_in; least = within.least_in; each = within.each }

pub orders_of-equal-requires : goal.orders_of-equal-requires
orders_of-equal-requires c =
    let parts = three_parts c.args.highs.now c.args.lows.now c.args.at c.args.values.now c.args.low_values.now c.args.sums.now c.orders_of-high.result c.orders_of-most.result c.orders_of-least.result c.requires.sums c.requires.each
    c.orders_of-high.ensures.below c.orders_of-high.ensures.above c.orders_of-high.ensures.all c.orders_of-most.ensures.below c.orders_of-most.ensures.above c.orders_of-most.ensures.all c.orders_of-least.ensures.below c.orders_of-least.ensures.above c.orders_of-least.ensures.all in
    let within = parts_within _ _ _ _ _ _ _ _ parts.equal in
    record { most = within.most_in; least = within.least_in; each = within.each }

pub orders_of-above-requires : goal.orders_of-above-requires
orders_of-above-requires c =
    let parts = three_parts c.args.highs.now c.args.lows.now c.args.at c.args.values.now c.args.low_values.now c.args.sums.now c.orders_of-high.result c.orders_of-most.result c.orders_of-least.result c.requires.sums c.requires.each
    c.orders_of-high.ensures.below c.orders_of-high.ensures.above c.orders_of-high.ensures.all c.orders_of-most.ensures.below c.orders_of-most.ensures.above c.orders_of-most.ensures.all c.orders_of-least.ensures.below c.orders_of-least.ensures.above c.orders_of-least.ensures.all in
    let within = parts_within _ _ _ _ _ _ _ _ parts.above in
    record { most = within.most_in; least = within.least_in; each = within.each }

pub returns : goal.returns
returns c =
    let parts = three_parts c.args.highs.now c.args.lows.now c.args.at c.args.values.now c.args.low_values.now c.args.sums.now c.orders_of-high.result c.orders_of-most.result c.orders_of-least.result c.requires.sums c.requires.each
    c.orders_of-high.ensures.below c.orders_of-high.ensures.above c.orders_of-high.ensures.all c.orders_of-most.ensures.below c.orders_of-most.ensures.above c.orders_of-most.ensures.all c.orders_of-least.ensures.below c.orders_of-least.ensures.above c.orders_of-least.ensures.all in
    record {
      all = parts_orders _ _ _ _ _ _ _ _ c.orders_of-all.result (low_parts c.args.highs.now c.args.lows.now c.args.at c.args.values.now c.args.low_values.now c.args.sums.now c.requires.sums c.requires.each) c.orders_of-all.ensures.below c.orders_of-all.ensures.above c.orders_of-all.ensures.all;
      below = parts_orders _ _ _ _ _ _ _ _ c.orders_of-below.result parts.below c.orders_of-below.ensures.below c.orders_of-below.ensures.above c.orders_of-below.ensures.all;
      equal = parts_orders _ _ _ _ _ _ _ _ c.orders_of-equal.result parts.equal c.orders_of-equal.ensures.below c.orders_of-equal.ensures.above c.orders_of-equal.ensures.all;
      above = parts_orders _ _ _ _ _ _ _ _ c.orders_of-above.result parts.above c.orders_of-above.ensures.below c.orders_of-above.ensures.above c.orders_of-above.ensures.all;
    }
