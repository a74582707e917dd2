use Rattle.std.proofs.Common.{◌≡◌, ◌<◌, ◌≤◌, ◌+◌, ◌^◌, ◌==◌, ℕ, Bool, List, length, take, refl, sym, ap, ◌∙◌, arith, cond, subst}
use Rattle.std.specs.Prelude.{slice_index, slice_index_or}
use Rattle.std.proofs.Math.Nat.{pow-le-pow_right}
use Rattle.std.proofs.lemmas.List.{length-take}
use Rattle.card_sets.specs.PlayerSets.{has_player, hands_below, without_player}
use Rattle.showdown_tally.proofs.CallerLemmas.{eligible_pot}
use Rattle.showdown_tally.specs.Deals.{deal_of}
use Rattle.showdown_tally.specs.Showdown.{eligible_in}
use Rattle.showdown_tally.specs.declared.table.Table.{Table}
use Rattle.runout_walk.specs.Bests.{best_set, best_value, some_set}
use Rattle.draw_runouts.specs.LastHand.{others_of, value_with, winner_by, won_by, won_set}
use Rattle.draw_runouts.proofs.DrawWinners.{hands_without, winner_is}
use Rattle.draw_runouts.proofs.LowWinners.{low_winner_is, small_with}
use Rattle.draw_runouts.proofs.rivals.rivals_of.Goals as goal

-- the hands of a pot
pot_hands : (table : Table) (pot : ℕ) → length table.eligible ≡ 10 → pot < table.pots → eligible_in (deal_of table) pot ≡ hands_below (slice_index_or table.eligible pot 0) table.known.count
pot_hands table pot ten there =
    let few = table.few_pots in
    let inside : pot < length (take table.pots table.eligible) = omega (arith, length-take table.pots table.eligible, ten, there) in
    eligible_pot (deal_of table) table.pots table.eligible table.known.count pot refl inside table.in_hands table.known.few

one_of_ten : (last count : ℕ) → last < count → count ≤ 10 → 2 ^ last ≤ 512
one_of_ten last count l few = let power : 2 ^ last ≤ 2 ^ 9 = pow-le-pow_right (let z : 0 < 2 = omega arith in z) (let m : last ≤ 9 = omega arith in m) in power

pub low_sets_of-requires-clause-room : goal.low_sets_of-requires-clause-room
low_sets_of-requires-clause-room c = one_of_ten c.args.last c.args.table.now.known.count c.requires.last c.args.table.now.known.few

pub sets_of-requires-clause-room : goal.sets_of-requires-clause-room
sets_of-requires-clause-room c = one_of_ten c.args.last c.args.table.now.known.count c.requires.last c.args.table.now.known.few

pub low_sets_of-requires-clause-small : goal.low_sets_of-requires-clause-small
low_sets_of-requires-clause-small c =
    let table = c.args.table.now in
    let values : List ℕ = c.args.values.now in
    let last : ℕ = c.args.last in
    let mask : ℕ = slice_index_or table.eligible c.args.pot 0 in
    let count : ℕ = table.known.count in
    let few = table.known.few in
    let mask_is : c.of-hands.result ≡ mask = c.of-hands.ensures in
    let others : hands_below c.without.result count ≡ others_of last (hands_below mask count) = ap (λ k. hands_below k count) (c.without.ensures ∙ ap (λ k. without_player k last) mask_is) ∙ hands_without mask last count (omega (arith, few)) in
    let plays : c.has-plays.result ≡ has_player mask last = c.has-plays.ensures ∙ ap (λ k. has_player k last) mask_is in
    let top : c.best_of-best.result.top ≡ best_value (slice_index values) (others_of last (hands_below mask count)) = c.best_of-best.ensures.top ∙ ap (best_value (slice_index values)) others in
    let set : c.best_of-best.result.set ≡ best_set (slice_index values) (others_of last (hands_below mask count)) = c.best_of-best.ensures.set ∙ ap (best_set (slice_index values)) others in
    let same : c.best_of-best.result.set + cond c.has-plays.result (2 ^ last) 0 ≡ c.best_of-best.result.set + cond (has_player mask last) (2 ^ last) 0 = ap (λ b. c.best_of-best.result.set + cond b (2 ^ last) 0) plays in
    omega (arith, same, small_with values mask last count c.best_of-best.result.top c.best_of-best.result.set c.requires.last few top set)

pub sets_of-requires-clause-small : goal.sets_of-requires-clause-small
sets_of-requires-clause-small c =
    let table = c.args.table.now in
    let values : List ℕ = c.args.values.now in
    let last : ℕ = c.args.last in
    let mask : ℕ = slice_index_or table.eligible c.args.pot 0 in
    let count : ℕ = table.known.count in
    let few = table.known.few in
    let mask_is : c.of-hands.result ≡ mask = c.of-hands.ensures in
    let others : hands_below c.without.result count ≡ others_of last (hands_below mask count) = ap (λ k. hands_below k count) (c.without.ensures ∙ ap (λ k. without_player k last) mask_is) ∙ hands_without mask last count (omega (arith, few)) in
    let plays : c.has-plays.result ≡ has_player mask last = c.has-plays.ensures ∙ ap (λ k. has_player k last) mask_is in
    let top : c.best_of-best.result.top ≡ best_value (slice_index values) (others_of last (hands_below mask count)) = c.best_of-best.ensures.top ∙ ap (best_value (slice_index values)) others in
    let set : c.best_of-best.result.set ≡ best_set (slice_index values) (others_of last (hands_below mask count)) = c.best_of-best.ensures.set ∙ ap (best_set (slice_index values)) others in
    let same : c.best_of-best.result.set + cond c.has-plays.result (2 ^ last) 0 ≡ c.best_of-best.result.set + cond (has_player mask last) (2 ^ last) 0 = ap (λ b. c.best_of-best.result.set + cond b (2 ^ last) 0) plays in
    omega (arith, same, small_with values mask last count c.best_of-best.result.top c.best_of-best.result.set c.requires.last few top set)

pub returns-then-qualify : goal.returns-then-qualify
returns-then-qualify c = λ value.
    let table = c.args.table.now in
    let values : List ℕ = c.args.values.now in
    let last : ℕ = c.args.last in
    let mask : ℕ = slice_index_or table.eligible c.args.pot 0 in
    let count : ℕ = table.known.count in
    let few = table.known.few in
    let hands : eligible_in (deal_of table) c.args.pot ≡ hands_below mask count = pot_hands table c.args.pot c.ten_places.ensures.pots c.requires.inside in
    let mask_is : c.of-hands.result ≡ mask = c.of-hands.ensures in
    let others : hands_below c.without.result count ≡ others_of last (hands_below mask count) = ap (λ k. hands_below k count) (c.without.ensures ∙ ap (λ k. without_player k last) mask_is) ∙ hands_without mask last count (omega (arith, few)) in
    let plays : c.has-plays.result ≡ has_player mask last = c.has-plays.ensures ∙ ap (λ k. has_player k last) mask_is in
    let t : ℕ = c.best_of-best.result.top in
    let s : ℕ = c.best_of-best.result.set in
    let top : t ≡ best_value (slice_index values) (others_of last (hands_below mask count)) = c.best_of-best.ensures.top ∙ ap (best_value (slice_index values)) others in
    let set : s ≡ best_set (slice_index values) (others_of last (hands_below mask count)) = c.best_of-best.ensures.set ∙ ap (best_set (slice_index values)) others in
    let W : Bool → Type 0 = λ b. won_by c.low_sets_of.result value ≡ won_set b (value_with values last value) (eligible_in (deal_of table) c.args.pot) in
    subst W (sym c.if-qualify.true) (
    ap (λ k. winner_by k c.low_sets_of.result.below c.low_sets_of.result.equal c.low_sets_of.result.above value) c.low_sets_of.ensures.top
    ∙ low_winner_is values mask last count t s c.low_sets_of.result.below c.low_sets_of.result.equal c.low_sets_of.result.above value c.requires.last top set
    c.low_sets_of.ensures.below
    (c.low_sets_of.ensures.equal ∙ ap (λ b. cond (t == 0) 0 (s + cond b (2 ^ last) 0)) plays)
    (c.low_sets_of.ensures.above ∙ ap (λ b. cond b (2 ^ last) (cond (t == 0) 0 s)) plays)
    ∙ ap (some_set (value_with values last value)) (sym hands))

pub returns : goal.returns
returns c = λ value.
    let table = c.args.table.now in
    let values : List ℕ = c.args.values.now in
    let last : ℕ = c.args.last in
    let mask : ℕ = slice_index_or table.eligible c.args.pot 0 in
    let count : ℕ = table.known.count in
    let few = table.known.few in
    let hands : eligible_in (deal_of table) c.args.pot ≡ hands_below mask count = pot_hands table c.args.pot c.ten_places.ensures.pots c.requires.inside in
    let mask_is : c.of-hands.result ≡ mask = c.of-hands.ensures in
    let others : hands_below c.without.result count ≡ others_of last (hands_below mask count) = ap (λ k. hands_below k count) (c.without.ensures ∙ ap (λ k. without_player k last) mask_is) ∙ hands_without mask last count (omega (arith, few)) in
    let below = c.sets_of.ensures.below in
    let plays : c.has-plays.result ≡ has_player mask last = c.has-plays.ensures ∙ ap (λ k. has_player k last) mask_is in
    let W : Bool → Type 0 = λ b. won_by c.sets_of.result value ≡ won_set b (value_with values last value) (eligible_in (deal_of table) c.args.pot) in
    subst W (sym c.if-qualify.false) (
    winner_is values mask last count c.sets_of.result.top c.sets_of.result.below c.sets_of.result.equal c.sets_of.result.above value c.requires.last
    (c.sets_of.ensures.top ∙ c.best_of-best.ensures.top ∙ ap (best_value (slice_index values)) others)
    (below ∙ c.best_of-best.ensures.set ∙ ap (best_set (slice_index values)) others)
    (c.sets_of.ensures.equal ∙ ap (λ n. n + cond c.has-plays.result (2 ^ last) 0) (sym below) ∙ ap (λ b. c.sets_of.result.below + cond b (2 ^ last) 0) plays)
    (c.sets_of.ensures.above ∙ ap (λ n. cond c.has-plays.result (2 ^ last) n) (sym below) ∙ ap (λ b. cond b (2 ^ last) c.sets_of.result.below) plays)
    ∙ ap (best_set (value_with values last value)) (sym hands))
