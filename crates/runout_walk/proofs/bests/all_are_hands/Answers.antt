use Rattle.std.proofs.Common.{◌≡◌, ◌<◌, ℕ, List, length, take, refl, sym, arith, subst}
use Rattle.std.specs.Prelude.{slice_index_or}
use Rattle.std.proofs.lemmas.List.{length-take}
use Rattle.showdown_tally.specs.Deals.{deal_of}
use Rattle.showdown_tally.specs.Showdown.{eligible_in}
use Rattle.card_sets.specs.PlayerSets.{hands_below}
use Rattle.showdown_tally.proofs.CallerLemmas.{eligible_pot}
use Rattle.card_sets.specs.PlayerSets.{AreBelow}
use Rattle.runout_walk.proofs.BestHands.{below_hands}
use Rattle.runout_walk.proofs.bests.all_are_hands.Goals as goal

pub returns : goal.returns
returns c = λ pot lt.
    let mask : ℕ = slice_index_or c.args.table.now.eligible pot 0 in
    let count : ℕ = c.args.table.now.known.count in
    let inside : pot < length (take c.args.table.now.pots c.args.table.now.eligible) = omega (arith, length-take c.args.table.now.pots c.args.table.now.eligible, c.ten_places.ensures.pots, lt, c.args.table.now.few_pots) in
    let hands : eligible_in (deal_of c.args.table.now) pot ≡ hands_below (slice_index_or c.args.table.now.eligible pot 0) c.args.table.now.known.count =
    eligible_pot (deal_of c.args.table.now) c.args.table.now.pots c.args.table.now.eligible c.args.table.now.known.count pot refl inside c.args.table.now.in_hands c.args.table.now.known.few in
    let all : length (take c.args.table.now.known.count c.args.table.now.known.hands) ≡ c.args.table.now.known.count = omega (arith, length-take c.args.table.now.known.count c.args.table.now.known.hands, c.ten_places.ensures.hands, c.args.table.now.known.few) in
    let P : List ℕ → Type 0 = λ l. AreBelow (length (take c.args.table.now.known.count c.args.table.now.known.hands)) l in
    let Q : ℕ → Type 0 = λ n. AreBelow n (hands_below mask count) in
    subst P (sym hands) (subst Q (sym all) (below_hands mask count))
