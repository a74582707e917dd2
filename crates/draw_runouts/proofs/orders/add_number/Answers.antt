use Rattle.std.proofs.Common.{◌≡◌, ◌<◌, ℕ, List, Some, cond, length, sym, ap, ◌∙◌, arith}
use Rattle.std.specs.Prelude.{nat_le, slice_get}
use Rattle.std.proofs.lemmas.Option.{slice_get-get_or}
use Rattle.draw_runouts.specs.LastHand.{is_least, is_most, top_at}
use Rattle.draw_runouts.specs.declared.winners.Winners.{Winners}
use Rattle.draw_runouts.proofs.DrawOrders.{byte_is, stepped_all, stepped_more, stepped_none, stepped_room, top_here}
use Rattle.draw_runouts.proofs.orders.add_number.Goals as goal

-- the number that stands there is the greatest of the others in the pot
top_is : (rivals : List Winners) (i pot : ℕ) (r : Winners) → i ≡ pot → slice_get rivals i ≡ Some r → r.top ≡ top_at rivals pot
top_is rivals i pot r at found = sym (top_here rivals i r found) ∙ ap (top_at rivals) at

most_is : (rivals : List Winners) (value times top pot : ℕ) → times ≡ cond (nat_le value top) 1 0 → top ≡ top_at rivals pot → times ≡ cond (is_most rivals value pot) 1 0
most_is rivals value times top pot one is = one ∙ ap (λ t. cond (nat_le value t) 1 0) is

least_is : (rivals : List Winners) (value times top pot : ℕ) → times ≡ cond (nat_le top value) 1 0 → top ≡ top_at rivals pot → times ≡ cond (is_least rivals value pot) 1 0
least_is rivals value times top pot one is = one ∙ ap (λ t. cond (nat_le t value) 1 0) is

pub loop-pot-init : goal.loop-pot-init
loop-pot-init c = record {
  at_most = stepped_none (is_most c.args.rivals.now c.args.value) c.args.at_most.now;
  at_least = stepped_none (is_least c.args.rivals.now c.args.value) c.args.at_least.now;
}

pub add_times-requires : goal.add_times-requires
add_times-requires c =
    let rivals : List Winners = c.args.rivals.now in
    let pot : ℕ = c.loop-pot.pot in
    let inside : c.from-at.result < length rivals = (let r = c.requires.rivals in let t = c.loop-pot-test.true in let a = c.from-at.ensures in omega arith) in
    let found : slice_get rivals c.from-at.result ≡ Some c.index-rivals-at.result = slice_get-get_or rivals c.from-at.result c.index-rivals-at.result inside ∙ ap Some (sym c.index-rivals-at.is) in
    let top : c.index-rivals-at.result.top ≡ top_at rivals pot = top_is rivals c.from-at.result pot c.index-rivals-at.result c.from-at.ensures found in
    let room = stepped_room (is_most rivals c.args.value) pot c.args.pots c.from-place.result c.from-under.result c.args.at_most.now c.loop-pot.at_most (is_most rivals c.args.value pot) c.from-place.ensures c.loop-pot-test.true
    (most_is rivals c.args.value c.from-under.result c.index-rivals-at.result.top pot (c.from-under.ensures ∙ byte_is (nat_le c.args.value c.index-rivals-at.result.top)) top) c.requires.at_most c.loop-pot.invariant.at_most in
    record { inside = room.0; fits = room.1 }

pub add_times-requires-in-loop-pot : goal.add_times-requires-in-loop-pot
add_times-requires-in-loop-pot c =
    let rivals : List Winners = c.args.rivals.now in
    let pot : ℕ = c.loop-pot.pot in
    let inside : c.from-at.result < length rivals = (let r = c.requires.rivals in let t = c.loop-pot-test.true in let a = c.from-at.ensures in omega arith) in
    let found : slice_get rivals c.from-at.result ≡ Some c.index-rivals-at.result = slice_get-get_or rivals c.from-at.result c.index-rivals-at.result inside ∙ ap Some (sym c.index-rivals-at.is) in
    let top : c.index-rivals-at.result.top ≡ top_at rivals pot = top_is rivals c.from-at.result pot c.index-rivals-at.result c.from-at.ensures found in
    let room = stepped_room (is_least rivals c.args.value) pot c.args.pots c.from-place.result c.from-over.result c.args.at_least.now c.loop-pot.at_least (is_least rivals c.args.value pot) c.from-place.ensures c.loop-pot-test.true
    (least_is rivals c.args.value c.from-over.result c.index-rivals-at.result.top pot (c.from-over.ensures ∙ byte_is (nat_le c.index-rivals-at.result.top c.args.value)) top) c.requires.at_least c.loop-pot.invariant.at_least in
    record { inside = room.0; fits = room.1 }

pub loop-pot-preserved : goal.loop-pot-preserved
loop-pot-preserved c =
    let was = c.loop-pot.invariant in
    let rivals : List Winners = c.args.rivals.now in
    let pot : ℕ = c.loop-pot.pot in
    let inside : c.from-at.result < length rivals = (let r = c.requires.rivals in let t = c.loop-pot-test.true in let a = c.from-at.ensures in omega arith) in
    let found : slice_get rivals c.from-at.result ≡ Some c.index-rivals-at.result = slice_get-get_or rivals c.from-at.result c.index-rivals-at.result inside ∙ ap Some (sym c.index-rivals-at.is) in
    let top : c.index-rivals-at.result.top ≡ top_at rivals pot = top_is rivals c.from-at.result pot c.index-rivals-at.result c.from-at.ensures found in
    let t : ℕ = c.index-rivals-at.result.top in
    record {
      at_most = stepped_more (is_most rivals c.args.value) pot c.from-place.result c.from-under.result c.args.at_most.now c.loop-pot.at_most c.add_times.new.cells c.from-place.ensures
          (most_is rivals c.args.value c.from-under.result t pot (c.from-under.ensures ∙ byte_is (nat_le c.args.value t)) top) c.add_times.ensures.counts c.add_times.ensures.places was.at_most;
      at_least = stepped_more (is_least rivals c.args.value) pot c.from-place.result c.from-over.result c.args.at_least.now c.loop-pot.at_least c.add_times-in-loop-pot.new.cells c.from-place.ensures
          (least_is rivals c.args.value c.from-over.result t pot (c.from-over.ensures ∙ byte_is (nat_le t c.args.value)) top) c.add_times-in-loop-pot.ensures.counts c.add_times-in-loop-pot.ensures.places was.at_least;
    }

pub returns-clause-at_most : goal.returns-clause-at_most
returns-clause-at_most c = stepped_all (is_most c.args.rivals.now c.args.value) c.loop-pot.pot c.args.pots c.args.at_most.now c.loop-pot.at_most (let t = c.loop-pot-test.false in omega arith) c.loop-pot.invariant.at_most

pub returns-clause-at_least : goal.returns-clause-at_least
returns-clause-at_least c = stepped_all (is_least c.args.rivals.now c.args.value) c.loop-pot.pot c.args.pots c.args.at_least.now c.loop-pot.at_least (let t = c.loop-pot-test.false in omega arith) c.loop-pot.invariant.at_least
