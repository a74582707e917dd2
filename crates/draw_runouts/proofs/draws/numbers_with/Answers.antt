use Rattle.std.proofs.Common.{◌≡◌, ◌<◌, [], ℕ, List, cond, length, set, take, sym, ap, ◌∙◌, arith, subst, inl, inr}
use Rattle.std.specs.Prelude.{nat_lt, slice_index, slice_index_or}
use Rattle.std.proofs.Math.ListN.{length-set}
use Rattle.std.proofs.lemmas.Bool.{cases_lt}
use Rattle.std.proofs.lemmas.List.{get_or-set_other, get_or-set_same, length-take}
use Rattle.card_sets.specs.Cards.{IsCardSet, union}
use Rattle.card_sets.specs.Games.{own_size}
use Rattle.runout_ranges.specs.Slots.{dealt, hand_slots}
use Rattle.runout_ranges.specs.declared.shapes.Receiver.TheVariants.{Hand}
use Rattle.showdown_tally.proofs.CallerLemmas.{index_default}
use Rattle.draw_runouts.specs.Worth.{full_worth}
use Rattle.draw_runouts.proofs.DrawOrders.{byte_is, byte_small}
use Rattle.draw_runouts.proofs.DrawSlots.{dealing_here, dealing_next}
use Rattle.draw_runouts.proofs.draws.numbers_with.Goals as goal

pub loop-hand-preserved : goal.loop-hand-preserved
loop-hand-preserved c =
    let known = c.args.known.now in
    let inv = c.loop-hand.invariant in
    let hands : List (List ℕ) = take known.count known.hands in
    let sets : List (List ℕ) = c.args.sets.now in
    let size : ℕ = own_size known.game in
    let at : ℕ = c.loop-hand.hand in
    let place : ℕ = c.loop-hand.place in
    let own : List ℕ = c.index-hands-hand.result in
    let numbers : List ℕ = c.loop-hand.numbers in
    let inside : at < length hands = c.loop-hand-test.true in
    let own_is : own ≡ slice_index_or hands at [] = c.index-hands-hand.is ∙ index_default hands at own [] inside in
    let size_is : c.own_size-size.result ≡ size = c.own_size-size.ensures.value in
    let gets : List ℕ = dealt (hand_slots size 0 hands) sets (Hand at) in
    let here : gets ≡ cond (nat_lt (length own) size) (slice_index_or sets place []) [] = dealing_here size at place hands sets own inside own_is (inv.later at (omega arith)) in
    let set_is : c.set_for-set.result ≡ gets = c.set_for-set.ensures ∙ ap (λ n. cond (nat_lt (length own) n) (slice_index_or sets place []) []) size_is ∙ sym here in
    let full_is : c.union.result ≡ union (slice_index_or hands at []) gets = c.union.ensures ∙ ap (λ s. union own s) set_is ∙ ap (λ o. union o gets) own_is in
    let room : at < length numbers = (let s = inv.size in let f = known.few in omega (arith, length-take known.count known.hands)) in
    let more_is : c.from-place.result ≡ cond (nat_lt (length own) size) 1 0 =
    c.from-place.ensures ∙ byte_is (nat_lt c.count.result c.own_size-size.result) ∙ ap (λ k. cond (nat_lt k c.own_size-size.result) 1 0) c.count.ensures.value ∙ ap (λ k. cond (nat_lt (length own) k) 1 0) size_is in
    record {
      size = length-set numbers at c.full_worth.result ∙ inv.size;
      numbers = λ h l full. elim (cases_lt h at) [
        | inl lt ↦ get_or-set_other numbers at h c.full_worth.result 0 (λ e. omega arith) ∙ inv.numbers h lt full
        | inr ge ↦
            let same : h ≡ at = omega arith in
            let P : ℕ → Type 0 = λ k. length (union (slice_index_or hands k []) (dealt (hand_slots size 0 hands) sets (Hand k))) ≡ own_size known.game
            → slice_index (set numbers at c.full_worth.result) k ≡ full_worth c.args.side known.game (union (slice_index_or hands k []) (dealt (hand_slots size 0 hands) sets (Hand k))) in
            subst P (sym same) (λ f. get_or-set_same numbers at c.full_worth.result 0 room ∙ c.full_worth.ensures (ap length full_is ∙ f) ∙ ap (full_worth c.args.side known.game) full_is) full
      ];
      later = λ h l. dealing_next size at place c.from-place.result h hands sets own inside own_is (omega arith) more_is (inv.later h (omega arith));
      cards = λ h l. elim (cases_lt h at) [
        | inl lt ↦ inv.cards h lt
        | inr ge ↦
            let same : h ≡ at = omega arith in
            let P : List ℕ → Type 0 = λ cards. IsCardSet cards in
            let Q : ℕ → Type 0 = λ k. IsCardSet (slice_index_or hands k []) in
            subst Q (sym same) (subst P own_is c.rising-in-loop-hand.ensures.set)
      ];
      few = (let f = inv.few in omega (arith, more_is, byte_small (nat_lt (length own) size)));
    }
