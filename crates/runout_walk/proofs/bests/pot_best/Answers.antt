use Rattle.std.proofs.Common.{◌≡◌, ◌<◌, ℕ, length, take, refl, sym, ap, ◌∙◌, arith}
use Rattle.std.specs.Prelude.{slice_index, slice_index_or}
use Rattle.std.proofs.lemmas.List.{length-take}
use Rattle.showdown_tally.specs.Deals.{deal_of}
use Rattle.showdown_tally.specs.Showdown.{eligible_in}
use Rattle.card_sets.specs.PlayerSets.{hands_below}
use Rattle.showdown_tally.proofs.CallerLemmas.{eligible_pot}
use Rattle.runout_walk.specs.Bests.{best_value, best_set}
use Rattle.runout_walk.proofs.BestHands.{below_hands, value-same, set-same}
use Rattle.runout_walk.proofs.bests.pot_best.Goals as goal

pub returns-clause-best : goal.returns-clause-best
returns-clause-best c = λ value agree.
    let table = c.args.table.now in
    let mask : ℕ = slice_index_or c.args.table.now.eligible c.args.pot 0 in
    let count : ℕ = c.args.table.now.known.count in
    let inside : c.args.pot < length (take c.args.table.now.pots c.args.table.now.eligible) = omega (arith, length-take c.args.table.now.pots c.args.table.now.eligible, c.ten_places.ensures.pots, c.requires, c.args.table.now.few_pots) in
    let hands : eligible_in (deal_of c.args.table.now) c.args.pot ≡ hands_below (slice_index_or c.args.table.now.eligible c.args.pot 0) c.args.table.now.known.count =
    eligible_pot (deal_of c.args.table.now) c.args.table.now.pots c.args.table.now.eligible c.args.table.now.known.count c.args.pot refl inside c.args.table.now.in_hands c.args.table.now.known.few in
    let all : length (take c.args.table.now.known.count c.args.table.now.known.hands) ≡ c.args.table.now.known.count = omega (arith, length-take c.args.table.now.known.count c.args.table.now.known.hands, c.ten_places.ensures.hands, c.args.table.now.known.few) in (
      c.best_of.ensures.top ∙ ap (λ k. best_value (slice_index c.args.values.now) (hands_below k count)) c.of-hands.ensures ∙ value-same (slice_index c.args.values.now) value count (hands_below mask count) (below_hands mask count) (λ h l. agree h (omega (arith, all, l))) ∙ ap (best_value value) (sym hands),
      c.best_of.ensures.set ∙ ap (λ k. best_set (slice_index c.args.values.now) (hands_below k count)) c.of-hands.ensures ∙ set-same (slice_index c.args.values.now) value count (hands_below mask count) (below_hands mask count) (λ h l. agree h (omega (arith, all, l))) ∙ ap (best_set value) (sym hands),
    )
