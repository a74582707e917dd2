use Rattle.std.proofs.Common.{◌≡◌, ◌≢◌, ◌<◌, ℕ, length, sym, ap, ◌∙◌, arith, subst, List, [], inl, inr, get_or-set_same, get_or-set_other, refl}
use Rattle.std.proofs.Math.ListN.{length-set}
use Rattle.std.proofs.lemmas.Bool.{cases_lt}
use Rattle.std.proofs.lemmas.List.{length-map, length-take}
use Rattle.card_sets.specs.State.{state_of}
use Rattle.card_sets.specs.Cards.{IsCardSet}
use Rattle.card_sets.specs.Rising.{IsRising-cards_where}
use Rattle.runout_ranges.specs.Slots.{slots, unseen, counts_of}
use Rattle.showdown_tally.proofs.DealtCards.{Deals, deals-length, runout_deals}
use Rattle.showdown_tally.proofs.SlotsAndSets.{index_default}
use Rattle.showdown_tally.proofs.FullHands.{hand_of, hand_IsFull}
use Rattle.showdown_tally.proofs.dealing.hands_after.Goals as goal

pub dealt_in-requires : goal.dealt_in-requires
dealt_in-requires c =
    let st = state_of c.args.known.now in
    let deals : Deals (unseen st) (counts_of (slots st)) c.args.sets.now = runout_deals (unseen st) (counts_of (slots st)) c.args.sets.now (IsRising-cards_where _) c.requires.runout in
    let same : length (counts_of (slots st)) ≡ length (slots st) = simp length-map in
    deals-length (unseen st) (counts_of (slots st)) c.args.sets.now deals ∙ same ∙ ap length (sym c.requires.shape.lacking)

pub loop-hand-preserved : goal.loop-hand-preserved
loop-hand-preserved c =
    let st = state_of c.args.known.now in
    let own : c.index-hands-hand.result ≡ hand_of st c.loop-hand.hand = c.index-hands-hand.is ∙ index_default st.hands c.loop-hand.hand c.index-hands-hand.result [] c.loop-hand-test.true in
    record {
      size = rw length-set c.loop-hand.invariant.size;
      so_far = λ h l. elim (cases_lt h c.loop-hand.hand) [
        | inl lt ↦ let ne : h ≢ c.loop-hand.hand = omega arith in rw get_or-set_other (c.loop-hand.invariant.so_far h lt)
        | inr ge ↦
            let same : h ≡ c.loop-hand.hand = omega arith in
            let inside : c.loop-hand.hand < length c.loop-hand.full = omega (arith, length-take c.args.known.now.count c.args.known.now.hands, c.args.known.now.few) in
            rw (same, get_or-set_same, c.union.ensures, c.dealt_in.ensures, own, c.requires.shape.lacking) refl
      ];
      full = λ h l. elim (cases_lt h c.loop-hand.hand) [
        | inl lt ↦ c.loop-hand.invariant.full h lt
        | inr ge ↦
            let same : h ≡ c.loop-hand.hand = omega arith in
            let is_set : IsCardSet (hand_of st c.loop-hand.hand) = (let P : List ℕ → Type 0 = λ xs. IsCardSet xs in subst P own c.rising-in-loop-hand.ensures.set) in
            rw same (hand_IsFull c.args.known.now.game c.args.known.now.count c.args.known.now.hands c.args.known.now.board c.args.known.now.dead c.args.sets.now c.loop-hand.hand c.args.known.now.disjoint c.args.known.now.fitting c.requires.runout c.loop-hand-test.true is_set c.rising.ensures.set)
      ];
    }
