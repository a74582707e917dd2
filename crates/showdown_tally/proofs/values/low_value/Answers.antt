use Rattle.std.proofs.Common.{◌≡◌, ℕ, ◌+◌, List, ap, ◌∙◌, sym, refl, arith, length, map, Option, Some, None, ◌∷◌, [], inl, inr}
use Rattle.std.specs.Option.{option_map}
use Rattle.card_sets.specs.Cards.{union}
use Rattle.card_sets.specs.Choose.{choose}
use Rattle.card_sets.specs.Games.{own_size, board_size}
use Rattle.card_sets.specs.declared.games.Game.TheVariants.{Razz, Lowball27, Triple27}
use Rattle.card_sets.specs.declared.games.Side.TheVariants.{Low}
use Rattle.rank_high.specs.High.{value_of}
use Rattle.rank_low.specs.Low.{best_low, ace_number, low_27, least_of}
use Rattle.showdown_tally.specs.Showdown.{best}
use Rattle.showdown_tally.specs.Numbers.{side_number, turned}
use Rattle.card_sets.proofs.CallerLemmas.{choose-all, length-union, Apart-apart}
use Rattle.showdown_tally.proofs.values.low_value.Goals as goal

composed : (f g : ℕ → ℕ) (h : List ℕ → ℕ) (o : Option (List ℕ)) → option_map f (option_map h o) ≡ option_map (λ x. f (h x)) o
composed f g h None = refl
composed f g h (Some x) = refl

razz : (t v : ℕ) (own board u : List ℕ) → t ≡ turned v → u ≡ union own board → Some v ≡ option_map ace_number (best_low u) → Some t ≡ option_map (side_number Low Razz) (best Low Razz own board)
unfolding best_low
razz t v own board u e f h = ap Some e ∙ ap (option_map turned) h ∙ composed turned turned ace_number (best_low u) ∙ ap (λ cards. option_map (λ x. turned (ace_number x)) (best_low cards)) f

deuce : (t v : ℕ) (own board u : List ℕ) → t ≡ turned v → u ≡ union own board → length (union own board) ≡ 5 → v ≡ value_of (low_27 u) → Some t ≡ option_map (side_number Low Lowball27) (best Low Lowball27 own board)
deuce t v own board u e f five h =
    let one : choose 5 (union own board) ≡ union own board ∷ [] = ap (λ k. choose k (union own board)) (sym five) ∙ choose-all (union own board) in
    let value : v ≡ value_of (low_27 (union own board)) = h ∙ ap (λ cards. value_of (low_27 cards)) f in
    ap Some (e ∙ ap turned value) ∙ sym (ap (λ ls. option_map (side_number Low Lowball27) (least_of (map low_27 ls))) one)

triple : (t v : ℕ) (own board u : List ℕ) → t ≡ turned v → u ≡ union own board → length (union own board) ≡ 5 → v ≡ value_of (low_27 u) → Some t ≡ option_map (side_number Low Triple27) (best Low Triple27 own board)
triple t v own board u e f five h =
    let one : choose 5 (union own board) ≡ union own board ∷ [] = ap (λ k. choose k (union own board)) (sym five) ∙ choose-all (union own board) in
    let value : v ≡ value_of (low_27 (union own board)) = h ∙ ap (λ cards. value_of (low_27 cards)) f in
    ap Some (e ∙ ap turned value) ∙ sym (ap (λ ls. option_map (side_number Low Triple27) (least_of (map low_27 ls))) one)

pub returns-in-Razz : goal.returns-in-Razz
returns-in-Razz c = rw c.in-Razz.is (razz c.turned.result c.ace_five.result c.args.own c.args.board c.union.result (c.turned.ensures ∙ ap turned c.number.ensures) c.union.ensures c.ace_five.ensures)

pub returns-in-Lowball27 : goal.returns-in-Lowball27
returns-in-Lowball27 c =
    let size : length (union c.args.own c.args.board) ≡ length c.args.own + length c.args.board = length-union c.args.own c.args.board c.rising.ensures.set c.rising-2.ensures.set (Apart-apart c.args.own c.args.board c.requires.apart) in
    elim c.in-Lowball27.is [
      | inl is ↦
          let five : length (union c.args.own c.args.board) ≡ 5 = omega (arith, size, c.requires.own, c.requires.board, ap own_size is, ap board_size is) in
          rw is (deuce c.turned-in-Lowball27.result c.deuce_seven.result c.args.own c.args.board c.union-in-Lowball27.result (c.turned-in-Lowball27.ensures ∙ ap turned c.number-in-Lowball27.ensures) c.union-in-Lowball27.ensures five c.deuce_seven.ensures)
      | inr is ↦
          let five : length (union c.args.own c.args.board) ≡ 5 = omega (arith, size, c.requires.own, c.requires.board, ap own_size is, ap board_size is) in
          rw is (triple c.turned-in-Lowball27.result c.deuce_seven.result c.args.own c.args.board c.union-in-Lowball27.result (c.turned-in-Lowball27.ensures ∙ ap turned c.number-in-Lowball27.ensures) c.union-in-Lowball27.ensures five c.deuce_seven.ensures)
    ]
