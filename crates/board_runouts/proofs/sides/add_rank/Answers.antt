use Rattle.std.proofs.Common.{◌≡◌, ◌<◌, ℕ, Some, length, sym, ap, ◌∙◌, arith, subst, inl, inr, set}
use Rattle.std.proofs.Math.ListN.{length-set}
use Rattle.std.specs.Prelude.{slice_get}
use Rattle.std.proofs.lemmas.Bool.{cases_lt}
use Rattle.std.proofs.lemmas.List.{length-take}
use Rattle.std.proofs.lemmas.Option.{slice_get-get_or}
use Rattle.card_sets.specs.Cards.{union}
use Rattle.card_sets.specs.State.{State, state_of}
use Rattle.card_sets.specs.declared.sets.ByRank.{ByRank}
use Rattle.rank_high.specs.High.{count_of_rank}
use Rattle.showdown_tally.proofs.CallerLemmas.{hand_of}
use Rattle.board_ranks.specs.BoardWith.{AreRanksAnd, AreRanksWith}
use Rattle.runout_walk.proofs.CallerLemmas.{get-other}
use Rattle.board_ranks.proofs.CallerLemmas.{get-same}
use Rattle.board_runouts.proofs.sides.add_rank.Goals as goal

pub loop-hand-preserved : goal.loop-hand-preserved
loop-hand-preserved c =
    let st : State = state_of c.args.known.now in
    let at : ℕ = c.loop-hand.hand in
    let old : ByRank = c.index-held-hand.result in
    let new : ByRank = c.with_rank.result in
    let inside : at < length c.args.held.now = omega (arith, length-take c.args.known.now.count c.args.known.now.hands, c.args.known.now.few, c.loop-hand-test.true) in
    let there : slice_get c.args.held.now at ≡ Some old = slice_get-get_or c.args.held.now at old inside ∙ ap Some (sym c.index-held-hand.is) in
    record {
      size = rw length-set c.loop-hand.invariant.size;
      right = λ board h ranks all lt found. elim (cases_lt h at) [
        | inl less ↦ c.loop-hand.invariant.right board h ranks all less (sym (get-other c.loop-hand.more at h new (λ s. omega arith)) ∙ found)
        | inr ge ↦
            let same : at ≡ h = omega arith in
            let is : ranks ≡ new = get-same c.loop-hand.more at new ranks (ap (slice_get (set c.loop-hand.more at new)) same ∙ found) in
            let was : AreRanksWith (hand_of st at) board old = all at old c.loop-hand-test.true there in
            let O : ByRank → Type 0 = λ r. AreRanksWith (hand_of st at) board r in
            let P : ℕ → Type 0 = λ i. AreRanksAnd (hand_of st i) board c.args.rank ranks in
            let Q : ByRank → Type 0 = λ r. AreRanksAnd (hand_of st at) board c.args.rank r in
            subst P same (subst Q (sym is) (c.with_rank.ensures (count_of_rank (union (hand_of st at) board)) (subst O c.index-held-hand.is was)))
      ];
    }

pub returns : goal.returns
returns c = λ board all h ranks lt found. c.loop-hand.invariant.right board h ranks all (let end = c.loop-hand-test.false in omega arith) found
