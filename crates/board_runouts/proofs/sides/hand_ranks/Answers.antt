use Rattle.std.proofs.Common.{◌≡◌, ℕ, [], sym, ap, ◌∙◌, arith, subst, inl, inr, set}
use Rattle.std.proofs.Math.ListN.{length-set}
use Rattle.std.specs.Prelude.{slice_get}
use Rattle.std.proofs.lemmas.Bool.{cases_lt}
use Rattle.card_sets.specs.Cards.{union}
use Rattle.card_sets.specs.State.{State, state_of}
use Rattle.card_sets.specs.declared.sets.ByRank.{ByRank}
use Rattle.showdown_tally.proofs.CallerLemmas.{index_default, hand_of}
use Rattle.board_ranks.specs.BoardWith.{AreRanksWith}
use Rattle.runout_walk.proofs.CallerLemmas.{get-other}
use Rattle.board_ranks.proofs.CallerLemmas.{get-same, ranks_of_both}
use Rattle.board_runouts.proofs.sides.hand_ranks.Goals as goal

pub loop-hand-preserved : goal.loop-hand-preserved
loop-hand-preserved c =
    let st : State = state_of c.args.known.now in
    let at : ℕ = c.loop-hand.hand in
    let new : ByRank = c.by_rank.result in
    let own : c.index-hands-hand.result ≡ hand_of st at = c.index-hands-hand.is ∙ index_default st.hands at c.index-hands-hand.result [] c.loop-hand-test.true in
    let both : c.union.result ≡ union (hand_of st at) c.args.board = c.union.ensures ∙ ap (λ l. union l c.args.board) own in
    let e = c.by_rank.ensures in
    let here : AreRanksWith (hand_of st at) c.args.board new = ranks_of_both (hand_of st at) c.args.board c.union.result new both e.one e.two e.three e.four in
    record {
      size = rw length-set c.loop-hand.invariant.size;
      right = λ h ranks lt found. elim (cases_lt h at) [
        | inl less ↦ c.loop-hand.invariant.right h ranks less (sym (get-other c.loop-hand.ranks at h new (λ s. omega arith)) ∙ found)
        | inr ge ↦
            let same : at ≡ h = omega arith in
            let is : ranks ≡ new = get-same c.loop-hand.ranks at new ranks (ap (slice_get (set c.loop-hand.ranks at new)) same ∙ found) in
            let P : ℕ → Type 0 = λ i. AreRanksWith (hand_of st i) c.args.board ranks in
            let Q : ByRank → Type 0 = λ r. AreRanksWith (hand_of st at) c.args.board r in
            subst P same (subst Q (sym is) here)
      ];
    }
