use Rattle.std.proofs.Common.{◌≡◌, ◌+◌, ◌*◌, ◌/◌, ◌%◌, ℕ, set, ap, sym, ◌∙◌, arith, subst, inl, inr}
use Rattle.std.specs.Prelude.{slice_get}
use Rattle.std.proofs.Math.ListN.{length-set}
use Rattle.std.proofs.lemmas.Bool.{cases_lt}
use Rattle.board_ranks.specs.Suits.{IsShort}
use Rattle.board_ranks.proofs.ListPlaces.{get-other, get-same}
use Rattle.board_ranks.proofs.suits.five_suits.Goals as goal

pub loop-place-preserved : goal.loop-place-preserved
loop-place-preserved c =
    let was = c.loop-place.invariant in
    let f = c.from.ensures in
    record {
      length = rw length-set was.length;
      suits = λ a b suit la lb lt at big. elim (cases_lt (4 * a + b) c.loop-place.place) [
        | inl less ↦ was.suits a b suit la lb less (sym (get-other c.loop-place.suits c.from.result (4 * a + b) c.first_five.result (λ e. omega arith)) ∙ at) big
        | inr ge ↦
            let there : 4 * a + b ≡ c.from.result = omega arith in
            let here : suit ≡ c.first_five.result = get-same c.loop-place.suits c.from.result c.first_five.result suit (ap (slice_get (set c.loop-place.suits c.from.result c.first_five.result)) (sym there) ∙ at) in
            let first : c.loop-place.place / 4 ≡ a = omega arith in
            let second : c.loop-place.place % 4 ≡ b = omega arith in
            let P : ℕ → Type 0 = λ x. IsShort c.args.counts x (c.loop-place.place % 4) in
            let Q : ℕ → Type 0 = λ y. IsShort c.args.counts a y in
            subst Q second (subst P first (c.first_five.ensures (omega arith)))
      ];
    }

pub returns-clause-suits : goal.returns-clause-suits
returns-clause-suits c = λ a b suit la lb at big. c.loop-place.invariant.suits a b suit la lb (let e = c.loop-place-test.false in omega arith) at big
