use Rattle.std.proofs.Common.{◌≡◌, ◌<◌, ◌/◌, ◌%◌, ℕ, List, length, ◌∙◌, sym, arith, inl, inr, subst, set, get_or}
use Rattle.std.proofs.Math.ListN.{length-set}
use Rattle.std.proofs.lemmas.Bool.{cases_lt}
use Rattle.std.proofs.lemmas.List.{get_or-set_other}
use Rattle.std.proofs.lemmas.Grind.{get_or-set_at}
use Rattle.card_sets.specs.declared.games.Side.{Side}
use Rattle.board_ranks.specs.Threes.{IsThreeWorth}
use Rattle.board_ranks.proofs.ThreeCards.{threes_from}
use Rattle.board_ranks.proofs.three_ranks.fill_threes.Goals as goal

-- a number that is put is that of its place
put_here : (side : Side) (own values : List ℕ) (place k v : ℕ) → place < length values → k ≡ place → IsThreeWorth side own (place / 169) (place / 13 % 13) (place % 13) v
    → IsThreeWorth side own (k / 169) (k / 13 % 13) (k % 13) (get_or (set values place v) k 0)
put_here side own values place k v inside same is =
    let P : ℕ → Type 0 = λ i. IsThreeWorth side own (i / 169) (i / 13 % 13) (i % 13) v in
    let here : IsThreeWorth side own (k / 169) (k / 13 % 13) (k % 13) v = subst P (sym same) is in
    λ three at. get_or-set_at values place k v 0 same inside ∙ here three at

-- and those of other places stay
put_other : (side : Side) (own values : List ℕ) (place k v : ℕ) → (k ≡ place → ⊥) → IsThreeWorth side own (k / 169) (k / 13 % 13) (k % 13) (get_or values k 0)
    → IsThreeWorth side own (k / 169) (k / 13 % 13) (k % 13) (get_or (set values place v) k 0)
put_other side own values place k v ne is = λ three at. get_or-set_other values place k v 0 ne ∙ is three at

pub loop-place-preserved : goal.loop-place-preserved
loop-place-preserved c =
    let was = c.loop-place.invariant in
    record {
      places = rw length-set was.places;
      right = λ k less order also. elim (cases_lt k c.loop-place.place) [
        | inl under ↦ put_other c.args.side c.args.own c.loop-place.values c.loop-place.place k c.three_worth.result (λ s. omega arith) (was.right k under order also)
        | inr ge ↦ put_here c.args.side c.args.own c.loop-place.values c.loop-place.place k c.three_worth.result (let t = c.loop-place-test.true in let p = was.places in omega arith) (omega arith) c.three_worth.ensures
      ];
    }

pub returns : goal.returns
returns c = threes_from c.args.side c.args.own c.loop-place.values (λ k lt order also. c.loop-place.invariant.right k (let e = c.loop-place-test.false in omega arith) order also)
