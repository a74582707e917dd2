use Rattle.std.proofs.Common.{◌≡◌, ◌<◌, ◌≤◌, ◌+◌, [], ℕ, List, length, set, ap, sym, ◌∙◌, arith, subst, inl, inr}
use Rattle.std.specs.Prelude.{slice_index, slice_index_or}
use Rattle.std.proofs.Math.ListN.{length-set}
use Rattle.std.proofs.lemmas.Bool.{cases_lt}
use Rattle.std.proofs.lemmas.List.{get_or-set_other, get_or-set_same}
use Rattle.card_sets.specs.Cards.{with_card}
use Rattle.card_sets.specs.Games.{own_size}
use Rattle.draw_runouts.specs.Worth.{full_worth}
use Rattle.draw_runouts.proofs.numbers.fill_pairs.Goals as goal

pub loop-number-preserved : goal.loop-number-preserved
loop-number-preserved c =
    let inv = c.loop-number.invariant in
    let own : List ℕ = c.args.own in
    let base : ℕ = c.args.base in
    let at : ℕ = c.loop-number.number in
    let rows : List (List ℕ) = c.loop-number.rows in
    let row : List ℕ = c.fill_row.new.row in
    let inside : base + at < length rows = (let p = inv.places in let q = c.requires.places in let t = c.loop-number-test.true in omega arith) in
    let card_is : c.card_of-low.result ≡ at = c.card_of-low.ensures in
    let number_is : c.number.result ≡ at = c.number.ensures.value ∙ card_is in
    let hand_is : c.with.result ≡ with_card own at = c.with.ensures ∙ ap (with_card own) card_is in
    record {
      pairs = λ low high l least up few full. elim (cases_lt low at) [
        | inl lt ↦ ap (λ r. slice_index r high) (get_or-set_other rows (base + at) (base + low) row [] (λ e. omega arith)) ∙ inv.pairs low high lt least up few full
        | inr ge ↦
            let same : low ≡ at = omega arith in
            let P : ℕ → Type 0 = λ k. c.args.least ≤ k → k + 1 ≤ high → length (with_card (with_card own k) high) ≡ own_size c.args.game
            → slice_index (slice_index_or (set rows (base + at) row) (base + k) []) high ≡ full_worth c.args.side c.args.game (with_card (with_card own k) high) in
            let here : P at = (λ m u f.
            ap (λ r. slice_index r high) (get_or-set_same rows (base + at) row [] inside) ∙ c.fill_row.ensures high (omega (arith, number_is, u)) few (ap (λ h. length (with_card h high)) hand_is ∙ f) ∙ ap (λ h. full_worth c.args.side c.args.game (with_card h high)) hand_is) in
            subst P (sym same) here least up full
      ];
      before = λ k l. get_or-set_other rows (base + at) k row [] (λ e. let m = c.loop-number.auto.number in omega arith) ∙ inv.before k l;
      places = length-set rows (base + at) row ∙ inv.places;
    }
