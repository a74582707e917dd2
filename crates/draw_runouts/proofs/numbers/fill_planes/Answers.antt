use Rattle.std.proofs.Common.{◌≡◌, ◌<◌, ◌+◌, ◌∷◌, [], ℕ, List, length, sym, ap, ◌∙◌, arith, subst, inl, inr}
use Rattle.std.specs.Prelude.{slice_index}
use Rattle.std.proofs.lemmas.Bool.{cases_lt}
use Rattle.card_sets.specs.Cards.{with_card}
use Rattle.card_sets.specs.declared.games.Game.{Game}
use Rattle.card_sets.specs.declared.games.Side.{Side}
use Rattle.draw_runouts.specs.Worth.{ArePairsFrom, IsDraw, full_worth, number_of, plane_base, worth}
use Rattle.draw_runouts.proofs.DrawLists.{with_three}
use Rattle.draw_runouts.proofs.DrawPlanes.{base_before}
use Rattle.draw_runouts.proofs.numbers.fill_planes.Goals as goal

triples : (side : Side) (game : Game) (own : List ℕ) (rows : List (List ℕ)) (planes : List (List ℕ)) (draw : List ℕ) → length draw ≡ 3 → IsDraw game own draw
    → ((low : ℕ) → low < 52 → ArePairsFrom (low + 1) side game (with_card own low) planes (plane_base low)) → number_of rows planes draw ≡ worth side game own draw
triples side game own rows planes [] size is all = absurd (omega arith)
triples side game own rows planes (a ∷ []) size is all = absurd (omega arith)
triples side game own rows planes (a ∷ b ∷ []) size is all = absurd (omega arith)
triples side game own rows planes (a ∷ b ∷ c ∷ []) size is all =
    let r = is.rising in
    all a (omega (arith, r)) b c (omega (arith, r)) (omega (arith, r)) (omega (arith, r)) (ap length (with_three own a b c) ∙ is.full) ∙ ap (full_worth side game) (with_three own a b c)
triples side game own rows planes (a ∷ b ∷ c ∷ d ∷ draw) size is all = absurd (omega arith)

pub returns-clause-numbers : goal.returns-clause-numbers
returns-clause-numbers c = λ rows draw some size is. triples c.args.side c.args.game c.args.own rows _ draw size is (λ low l. c.loop-number.invariant.planes low (omega arith))

pub loop-number-preserved : goal.loop-number-preserved
loop-number-preserved c =
    let inv = c.loop-number.invariant in
    let side : Side = c.args.side in
    let game : Game = c.args.game in
    let own : List ℕ = c.args.own in
    let at : ℕ = c.loop-number.number in
    let new : List (List ℕ) = c.fill_pairs.new.rows in
    let card_is : c.card_of-low.result ≡ at = c.card_of-low.ensures in
    let number_is : c.number.result ≡ at = c.number.ensures.value ∙ card_is in
    let hand_is : c.with.result ≡ with_card own at = c.with.ensures ∙ ap (with_card own) card_is in
    let base_is : c.plane_base-base.result ≡ plane_base at = c.plane_base-base.ensures.value ∙ ap plane_base card_is in
    let B : ℕ → Type 0 = λ k. ArePairsFrom (c.number.result + 1) side game c.with.result new k in
    let P : ℕ → Type 0 = λ k. ArePairsFrom k side game c.with.result new (plane_base at) in
    let Q : List ℕ → Type 0 = λ h. ArePairsFrom (at + 1) side game h new (plane_base at) in
    let R : ℕ → Type 0 = λ k. ArePairsFrom (k + 1) side game (with_card own k) new (plane_base k) in
    let here : R at = subst Q hand_is (subst P (ap (λ n. n + 1) number_is) (subst B base_is c.fill_pairs.ensures.pairs)) in
    let test = c.loop-number-test.true in
    record {
      planes = λ low l. elim (cases_lt low at) [
        | inl lt ↦ λ mid high least up few full. ap (λ r. slice_index r high) (c.fill_pairs.ensures.before (plane_base low + mid) (omega (arith, base_before low at lt test, base_is, number_is, up, few))) ∙ inv.planes low lt mid high least up few full
        | inr ge ↦ let same : low ≡ at = omega arith in subst R (sym same) here
      ];
      places = c.fill_pairs.ensures.places ∙ inv.places;
    }
