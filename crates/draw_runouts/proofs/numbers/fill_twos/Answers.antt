use Rattle.std.proofs.Common.{◌≡◌, ◌∷◌, [], ℕ, List, length, ap, ◌∙◌, arith}
use Rattle.card_sets.specs.declared.games.Game.{Game}
use Rattle.card_sets.specs.declared.games.Side.{Side}
use Rattle.draw_runouts.specs.Worth.{ArePairsFrom, IsDraw, full_worth, number_of, worth}
use Rattle.draw_runouts.proofs.DrawLists.{with_two}
use Rattle.draw_runouts.proofs.numbers.fill_twos.Goals as goal

pairs : (side : Side) (game : Game) (own : List ℕ) (rows : List (List ℕ)) (planes : List (List ℕ)) (draw : List ℕ) → length draw ≡ 2 → IsDraw game own draw → ArePairsFrom 0 side game own rows 0 → number_of rows planes draw ≡ worth side game own draw
pairs side game own rows planes [] size is all = absurd (omega arith)
pairs side game own rows planes (a ∷ []) size is all = absurd (omega arith)
pairs side game own rows planes (a ∷ b ∷ []) size is all =
    let r = is.rising in
    all a b (omega arith) (omega (arith, r)) (omega (arith, r)) (ap length (with_two own a b) ∙ is.full) ∙ ap (full_worth side game) (with_two own a b)
pairs side game own rows planes (a ∷ b ∷ c ∷ draw) size is all = absurd (omega arith)

pub returns-clause-numbers : goal.returns-clause-numbers
returns-clause-numbers c = λ planes draw some size is. pairs c.args.side c.args.game c.args.own c.fill_pairs.new.rows planes draw size is c.fill_pairs.ensures.pairs
