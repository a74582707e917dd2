use Rattle.std.proofs.Common.{◌≡◌, ◌≢◌, ◌<◌, ℕ, List, [], Some, length, sym, ap, ◌∙◌, arith, subst, inl, inr, get_or-set_same, get_or-set_other}
use Rattle.std.specs.Prelude.{slice_get}
use Rattle.std.proofs.Math.ListN.{length-set}
use Rattle.std.proofs.lemmas.Bool.{cases_lt}
use Rattle.std.proofs.lemmas.List.{length-take}
use Rattle.std.proofs.lemmas.Option.{slice_get-get_or}
use Rattle.card_sets.specs.Cards.{union}
use Rattle.card_sets.specs.Disjoint.{apart}
use Rattle.card_sets.specs.State.{State, state_of}
use Rattle.card_sets.specs.declared.sets.ByRank.{ByRank}
use Rattle.showdown_tally.proofs.CallerLemmas.{index_default, hand_of, known_sound, Sound}
use Rattle.board_ranks.specs.BoardWith.{AreRanksAnd, AreWorthWith, IsBoardWith}
use Rattle.board_runouts.proofs.BoardDealt.{first_board, first_apart}
use Rattle.board_runouts.proofs.sides.worths_with.Goals as goal

pub invariant_of-held : goal.invariant_of-held
invariant_of-held c =
    let st : State = state_of c.args.start.now.spot.now.table.known in
    let known = c.args.start.now.spot.now.table.known in
    let own : c.index-hands-hand.result ≡ hand_of st c.loop-hand.hand = c.index-hands-hand.is ∙ index_default st.hands c.loop-hand.hand c.index-hands-hand.result [] c.loop-hand-test.true in
    let sound : Sound st = known_sound known.game known.count known.hands known.board known.dead known.disjoint known.fitting in
    record {
      dealt = c.args.start.now.spot.now.dealt;
      full = ap length own ∙ c.args.start.now.own c.loop-hand.hand c.loop-hand-test.true;
      three = ap length c.union-board.ensures ∙ first_board st c.args.start.now.taken c.rising.ensures.set c.rising-2.ensures.set c.args.start.now.first;
      apart = ap (λ l. apart l c.union-board.result) own ∙ ap (apart (hand_of st c.loop-hand.hand)) c.union-board.ensures ∙ first_apart st c.args.start.now.taken c.loop-hand.hand sound c.loop-hand-test.true c.args.start.now.first;
    }

pub worth_with-worth-requires-clause-ranks : goal.worth_with-worth-requires-clause-ranks
worth_with-worth-requires-clause-ranks c =
    let st : State = state_of c.args.start.now.spot.now.table.known in
    let own : c.index-hands-hand.result ≡ hand_of st c.loop-hand.hand = c.index-hands-hand.is ∙ index_default st.hands c.loop-hand.hand c.index-hands-hand.result [] c.loop-hand-test.true in
    let count : c.loop-hand.hand < length c.args.ranks.now = omega (arith, length-take c.args.start.now.spot.now.table.known.count c.args.start.now.spot.now.table.known.hands, c.args.start.now.spot.now.table.known.few, c.loop-hand-test.true) in
    let ranks : ByRank = c.index-ranks-hand.result in
    let there : slice_get c.args.ranks.now c.loop-hand.hand ≡ Some ranks = slice_get-get_or c.args.ranks.now c.loop-hand.hand ranks count ∙ ap Some (sym c.index-ranks-hand.is) in
    let P : List ℕ → Type 0 = λ l. AreRanksAnd l c.union-board.result c.args.low ranks in
    let Q : List ℕ → Type 0 = λ b. AreRanksAnd (hand_of st c.loop-hand.hand) b c.args.low ranks in
    let R : ByRank → Type 0 = λ r. AreRanksAnd c.index-hands-hand.result c.union-board.result c.args.low r in
    subst R c.index-ranks-hand.is (subst P (sym own) (subst Q (sym c.union-board.ensures) (c.requires.ranks c.loop-hand.hand ranks c.loop-hand-test.true there)))

pub loop-hand-preserved : goal.loop-hand-preserved
loop-hand-preserved c =
    let st : State = state_of c.args.start.now.spot.now.table.known in
    let own : c.index-hands-hand.result ≡ hand_of st c.loop-hand.hand = c.index-hands-hand.is ∙ index_default st.hands c.loop-hand.hand c.index-hands-hand.result [] c.loop-hand-test.true in
    let worth : AreWorthWith c.args.start.now.spot.now.table.known.game (hand_of st c.loop-hand.hand) (union st.board c.args.start.now.taken) c.args.low c.args.high c.worth_with-worth.result.high c.worth_with-worth.result.low =
    (let P : List ℕ → Type 0 = λ l. AreWorthWith c.args.start.now.spot.now.table.known.game l (union st.board c.args.start.now.taken) c.args.low c.args.high c.worth_with-worth.result.high c.worth_with-worth.result.low in
    let Q : List ℕ → Type 0 = λ b. AreWorthWith c.args.start.now.spot.now.table.known.game c.index-hands-hand.result b c.args.low c.args.high c.worth_with-worth.result.high c.worth_with-worth.result.low in
    subst P own (subst Q c.union-board.ensures c.worth_with-worth.ensures)) in
    let count : c.loop-hand.hand < 10 = omega (arith, length-take c.args.start.now.spot.now.table.known.count c.args.start.now.spot.now.table.known.hands, c.args.start.now.spot.now.table.known.few, c.loop-hand-test.true) in
    record {
      highs_size = rw length-set c.loop-hand.invariant.highs_size;
      lows_size = rw length-set c.loop-hand.invariant.lows_size;
      highs = λ h full lt is. elim (cases_lt h c.loop-hand.hand) [
        | inl less ↦ let ne : h ≢ c.loop-hand.hand = omega arith in rw get_or-set_other (c.loop-hand.invariant.highs h full less is)
        | inr ge ↦
            let same : h ≡ c.loop-hand.hand = omega arith in
            let inside : c.loop-hand.hand < length c.loop-hand.worths.highs = omega (arith, count, c.loop-hand.invariant.highs_size) in
            let P : ℕ → Type 0 = λ i. IsBoardWith (hand_of st i) (union st.board c.args.start.now.taken) c.args.low c.args.high full in
            rw (same, get_or-set_same) (worth.as_high full (subst P same is))
      ];
      lows = λ h full lt is. elim (cases_lt h c.loop-hand.hand) [
        | inl less ↦ let ne : h ≢ c.loop-hand.hand = omega arith in rw get_or-set_other (c.loop-hand.invariant.lows h full less is)
        | inr ge ↦
            let same : h ≡ c.loop-hand.hand = omega arith in
            let inside : c.loop-hand.hand < length c.loop-hand.worths.lows = omega (arith, count, c.loop-hand.invariant.lows_size) in
            let P : ℕ → Type 0 = λ i. IsBoardWith (hand_of st i) (union st.board c.args.start.now.taken) c.args.low c.args.high full in
            rw (same, get_or-set_same) (worth.as_low full (subst P same is))
      ];
    }
