use Rattle.std.proofs.Common.{◌≡◌, ◌<◌, ◌+◌, ◌*◌, ◌==◌, ℕ, List, Some, true, length, set, sym, ◌∙◌, arith, subst, inl, inr}
use Rattle.std.specs.Prelude.{slice_get, slice_index_or}
use Rattle.std.proofs.Math.ListN.{length-set}
use Rattle.std.proofs.lemmas.Bool.{and_parts, cases_lt}
use Rattle.std.proofs.lemmas.Option.{slice_get-get_or}
use Rattle.card_sets.specs.Games.{has_side}
use Rattle.card_sets.specs.declared.games.Side.TheVariants.{High, Low}
use Rattle.showdown_tally.specs.Deals.{deal_of}
use Rattle.showdown_tally.specs.Showdown.{eligible_in}
use Rattle.showdown_tally.specs.SideCounts.{count_at}
use Rattle.runout_walk.specs.Bests.{best_set, some_set}
use Rattle.runout_walk.specs.OneMore.{set_place}
use Rattle.draw_runouts.specs.LastHand.{count_both, marked_times, times_of, value_with, won_at}
use Rattle.draw_runouts.specs.declared.winners.Winners.{Winners}
use Rattle.draw_runouts.proofs.DrawOrders.{other_row, sides_won}
use Rattle.draw_runouts.proofs.DrawPairs.{ArePut, both_put, high_row, high_total, high_won, low_total, low_won, pairs_fewer, rows_put}
use Rattle.draw_runouts.proofs.rivals.count_sides.Goals as goal

pub pair_orders_at-orders-requires : goal.pair_orders_at-orders-requires
pair_orders_at-orders-requires g c =
    let at : c.from-at.result ≡ c.loop-pot.pot = c.from-at.ensures in
    let there : c.from-at.result < c.args.table.now.pots = (let t = c.loop-pot-test.true in omega arith) in
    record {
      pot = (let f = c.args.table.now.few_pots in omega arith);
      few = c.requires.few;
      each = c.requires.each;
      sums = pairs_fewer c.pot_rivals-high_sets.result c.pot_rivals-low_sets.result c.args.table.now.pots (c.from-at.result + 1) c.args.values.now c.args.low_values.now c.compare_pairs-sums.result (omega arith) c.compare_pairs-sums.ensures.sums;
    }

pub put_highs-requires-clause-fits : goal.put_highs-requires-clause-fits
put_highs-requires-clause-fits g c = λ place m.
    let p : ℕ = c.from-at.result in
    let at : p ≡ c.loop-pot.pot = c.from-at.ensures in
    let there : p < c.args.table.now.pots = (let t = c.loop-pot-test.true in omega arith) in
    let has : has_side High c.args.table.now.known.game ≡ true = (and_parts (has_side High c.args.table.now.known.game) (has_side Low c.args.table.now.known.game) c.requires.two).0 in
    let old : count_at c.loop-pot.counts p High place ≡ count_at c.args.counts.now p High place = c.loop-pot.invariant.later p place High (omega arith) in
    let room : count_at c.args.counts.now p High place + length c.args.values.now < 4294967296 = c.requires.fits p place High there has m in
    omega (arith, old, room, high_row c.loop-pot.counts p place, high_total c.pot_rivals-high_sets.result c.pot_rivals-low_sets.result p c.args.values.now c.args.low_values.now c.pair_orders_at-orders.result c.requires.each c.pair_orders_at-orders.ensures)

pub put_orders-requires-clause-fits : goal.put_orders-requires-clause-fits
put_orders-requires-clause-fits g c = λ place m.
    let p : ℕ = c.from-at.result in
    let at : p ≡ c.loop-pot.pot = c.from-at.ensures in
    let there : p < c.args.table.now.pots = (let t = c.loop-pot-test.true in omega arith) in
    let has : has_side Low c.args.table.now.known.game ≡ true = (and_parts (has_side High c.args.table.now.known.game) (has_side Low c.args.table.now.known.game) c.requires.two).1 in
    let old : count_at c.loop-pot.counts p Low place ≡ count_at c.args.counts.now p Low place = c.loop-pot.invariant.later p place Low (omega arith) in
    let room : count_at c.args.counts.now p Low place + length c.args.values.now < 4294967296 = c.requires.fits p place Low there has m in
    omega (
      arith,
      old,
      room,
      other_row c.loop-pot.counts (2 * p) (2 * p + 1) place c.put_highs.new.row (λ e. omega arith),
      low_total c.pot_rivals-high_sets.result c.pot_rivals-low_sets.result p c.args.values.now c.args.low_values.now c.pair_orders_at-orders.result c.requires.each c.pair_orders_at-orders.ensures,
    )

pub loop-pot-preserved : goal.loop-pot-preserved
loop-pot-preserved g c =
    let was = c.loop-pot.invariant in
    let table = c.args.table.now in
    let values : List ℕ = c.args.values.now in
    let low_values : List ℕ = c.args.low_values.now in
    let highs : List Winners = c.pot_rivals-high_sets.result in
    let lows : List Winners = c.pot_rivals-low_sets.result in
    let r : Winners = slice_index_or highs c.from-at.result c.index-high_sets-at.result in
    let q : Winners = slice_index_or lows c.from-at.result c.index-low_sets-at.result in
    let o = c.pair_orders_at-orders.result in
    let p : ℕ = c.from-at.result in
    let at : p ≡ c.loop-pot.pot = c.from-at.ensures in
    let there : p < table.pots = (let t = c.loop-pot-test.true in omega (arith, at)) in
    let ten : p < length highs = (let n = c.pot_rivals-high_sets.ensures.ten in let f = table.few_pots in omega arith) in
    let also : p < length lows = (let n = c.pot_rivals-low_sets.ensures.ten in let f = table.few_pots in omega arith) in
    let found : slice_get highs p ≡ Some (slice_index_or highs c.from-at.result c.index-high_sets-at.result) = slice_get-get_or highs p c.index-high_sets-at.result ten in
    let found_low : slice_get lows p ≡ Some (slice_index_or lows c.from-at.result c.index-low_sets-at.result) = slice_get-get_or lows p c.index-low_sets-at.result also in
    let counts : List (List ℕ) = c.loop-pot.counts in
    let new : List (List ℕ) = set (set counts (2 * p) c.put_highs.new.row) (2 * p + 1) c.put_orders.new.row in
    let inside : 2 * p + 1 < length counts = (let s = was.same in let n = c.requires.places in omega arith) in
    let high_more : ℕ → ℕ = λ place. marked_times r.below q o.below place + marked_times r.equal q o.equal place + marked_times r.above q o.above place in
    let low_more : ℕ → ℕ = λ place. times_of q.below q.equal q.above o.all place in
    let put : ArePut counts p high_more low_more new = rows_put counts p c.put_highs.new.row c.put_orders.new.row high_more low_more inside c.put_highs.ensures.counts c.put_orders.ensures.counts in
    let win : ℕ → ℕ = λ value. best_set (value_with c.args.others.now.numbers c.args.others.now.last value) (eligible_in (deal_of table) p) in
    let low_win : ℕ → ℕ = λ low. some_set (value_with c.args.others.now.lows c.args.others.now.last low) (eligible_in (deal_of table) p) in
    record {
      done = λ pot place side l. elim (cases_lt pot p) [
        | inl lt ↦
            let kept : count_at new pot side place ≡ count_at counts pot side place = put.others pot place side (λ e. omega arith) in
            let old = was.done pot place side (omega arith) in
            omega (arith, kept, old)
        | inr ge ↦
            let here : pot ≡ p = omega arith in
            let P : ℕ → Type 0 = λ k. count_at new k side place ≡ count_at c.args.counts.now k side place
            + count_both (λ value low. set_place side (best_set (value_with c.args.others.now.numbers c.args.others.now.last value) (eligible_in (deal_of table) k)) (some_set (value_with c.args.others.now.lows c.args.others.now.last low) (eligible_in (deal_of table) k)) == place) values low_values in
            let more : count_at new p side place ≡ count_at counts p side place + count_both (λ v w. set_place side (won_at highs p v) (won_at lows p w) == place) values low_values =
            both_put counts new p high_more low_more highs lows values low_values put
            (λ place. high_won highs lows p values low_values o r q place found found_low c.pair_orders_at-orders.ensures) (λ place. low_won highs lows p values low_values o q place found_low c.pair_orders_at-orders.ensures) place side in
            let old : count_at counts p side place ≡ count_at c.args.counts.now p side place = was.later p place side (omega (arith, at)) in
            let won : count_both (λ v w. set_place side (won_at highs p v) (won_at lows p w) == place) values low_values ≡ count_both (λ v w. set_place side (win v) (low_win w) == place) values low_values =
            sides_won side highs lows p place win low_win values low_values (λ value. c.pot_rivals-high_sets.ensures.winners p value there) (λ low. c.pot_rivals-low_sets.ensures.winners p low there) in
            subst P (sym here) (omega (arith, more, old, won))
      ];
      later = λ pot place side l. put.others pot place side (λ e. omega arith) ∙ was.later pot place side (omega arith);
      same = length-set (set counts (2 * p) c.put_highs.new.row) (2 * p + 1) c.put_orders.new.row ∙ length-set counts (2 * p) c.put_highs.new.row ∙ was.same;
    }
