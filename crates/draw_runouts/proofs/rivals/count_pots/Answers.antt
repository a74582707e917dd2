use Rattle.std.proofs.Common.{◌≡◌, ◌<◌, ◌≤◌, ◌+◌, ◌*◌, ◌==◌, [], ℕ, List, Some, length, set, sym, ◌∙◌, arith, subst, inl, inr}
use Rattle.std.specs.Prelude.{slice_get, slice_index, slice_index_or}
use Rattle.std.specs.List.{count_by}
use Rattle.std.proofs.Math.ListN.{length-set}
use Rattle.std.proofs.lemmas.Bool.{cases_lt}
use Rattle.std.proofs.lemmas.Option.{slice_get-get_or}
use Rattle.showdown_tally.specs.Deals.{deal_of}
use Rattle.showdown_tally.specs.Showdown.{eligible_in}
use Rattle.runout_walk.specs.Bests.{best_set}
use Rattle.draw_runouts.specs.LastHand.{times_at, value_with}
use Rattle.draw_runouts.specs.declared.winners.Winners.{Winners}
use Rattle.draw_runouts.proofs.DrawOrders.{orders_total, orders_won, other_row, same_row}
use Rattle.draw_runouts.proofs.rivals.count_pots.Goals as goal

pub put_orders-requires-clause-fits : goal.put_orders-requires-clause-fits
put_orders-requires-clause-fits g c = λ place m.
    let table = c.args.table.now in
    let rivals : List Winners = c.pot_rivals-rivals.result in
    let o = c.orders_at-orders in
    let p : ℕ = c.from-at.result in
    let there : p < table.pots = (let t = c.loop-pot-test.true in let a = c.from-at.ensures in omega arith) in
    let later : c.loop-pot.pot ≤ p = (let a = c.from-at.ensures in omega arith) in
    let old : slice_index (slice_index_or c.loop-pot.counts (2 * p + c.args.row) []) place ≡ slice_index (slice_index_or c.args.counts.now (2 * p + c.args.row) []) place = c.loop-pot.invariant.later p place later in
    let total : o.result.below + o.result.equal + o.result.above ≡ length c.args.values.now = (let b = o.ensures.below in let e = o.ensures.equal in let a = o.ensures.above in omega (arith, b, e, a, orders_total rivals p c.args.values.now)) in
    omega (arith, c.requires.fits p place there m, old, total)

pub loop-pot-preserved : goal.loop-pot-preserved
loop-pot-preserved g c =
    let was = c.loop-pot.invariant in
    let table = c.args.table.now in
    let values : List ℕ = c.args.values.now in
    let row : ℕ = c.args.row in
    let rivals : List Winners = c.pot_rivals-rivals.result in
    let r : Winners = slice_index_or rivals c.from-at.result c.index-rivals-at.result in
    let o = c.orders_at-orders in
    let p : ℕ = c.from-at.result in
    let at : p ≡ c.loop-pot.pot = c.from-at.ensures in
    let there : p < table.pots = (let t = c.loop-pot-test.true in omega (arith, at)) in
    let ten : p < length rivals = (let n = c.pot_rivals-rivals.ensures.ten in let f = table.few_pots in omega arith) in
    let found : slice_get rivals p ≡ Some (slice_index_or rivals c.from-at.result c.index-rivals-at.result) = slice_get-get_or rivals p c.index-rivals-at.result ten in
    let counts : List (List ℕ) = c.loop-pot.counts in
    let new : List ℕ = c.put_orders.new.row in
    let inside : 2 * p + row < length counts = (let q = c.requires.places in let e = was.places in let s = c.requires.row in omega arith) in
    let win : ℕ → ℕ = λ value. best_set (value_with c.args.others.now.numbers c.args.others.now.last value) (eligible_in (deal_of table) p) in
    record {
      done = λ pot place l m. elim (cases_lt pot p) [
        | inl lt ↦ other_row counts (2 * p + row) (2 * pot + row) place new (λ e. omega arith) ∙ was.done pot place (omega arith) m
        | inr ge ↦
            let here : pot ≡ p = omega arith in
            let P : ℕ → Type 0 = λ k. slice_index (slice_index_or (set counts (2 * p + row) new) (2 * k + row) []) place ≡ slice_index (slice_index_or c.args.counts.now (2 * k + row) []) place
            + count_by (λ value. best_set (value_with c.args.others.now.numbers c.args.others.now.last value) (eligible_in (deal_of table) k) == place) values in
            let old : slice_index (slice_index_or counts (2 * p + row) []) place ≡ slice_index (slice_index_or c.args.counts.now (2 * p + row) []) place = was.later p place (omega (arith, at)) in
            let won : times_at r.below o.result.below place + times_at r.equal o.result.equal place + times_at r.above o.result.above place ≡ count_by (λ value. win value == place) values =
            orders_won rivals p place r win values o.result.below o.result.equal o.result.above found (λ value. c.pot_rivals-rivals.ensures.winners p value there) o.ensures.below o.ensures.equal o.ensures.above in
            let put : slice_index new place ≡ slice_index (slice_index_or counts (2 * p + row) []) place + (times_at r.below o.result.below place + times_at r.equal o.result.equal place + times_at r.above o.result.above place) = c.put_orders.ensures.counts place in
            subst P (sym here) (omega (arith, same_row counts (2 * p + row) place new inside, put, old, won))
      ];
      later = λ pot place l. other_row counts (2 * p + row) (2 * pot + row) place new (λ e. omega arith) ∙ was.later pot place (omega arith);
      places = length-set counts (2 * p + row) new ∙ was.places;
    }

pub orders_at-orders-requires : goal.orders_at-orders-requires
orders_at-orders-requires g c =
    let p : ℕ = c.from-at.result in
    let there : p < c.args.table.now.pots = (let t = c.loop-pot-test.true in let a = c.from-at.ensures in omega arith) in
    record {
      pot = (let f = c.args.table.now.few_pots in omega arith);
      few = c.requires.few;
      at_most = c.compare_pots-sums.ensures.at_most.counts p there;
      at_least = c.compare_pots-sums.ensures.at_least.counts p there;
    }
