use Rattle.std.proofs.Common.{◌≡◌, ◌<◌, ◌∷◌, [], ℕ, List, length, set, ap, ◌∙◌, arith}
use Rattle.std.specs.Prelude.{slice_index}
use Rattle.card_sets.specs.Cards.{with_card}
use Rattle.card_sets.specs.Games.{own_size}
use Rattle.card_sets.specs.declared.games.Game.{Game}
use Rattle.card_sets.specs.declared.games.Side.{Side}
use Rattle.draw_runouts.specs.Worth.{IsDraw, full_worth, number_of, worth}
use Rattle.draw_runouts.proofs.DrawLists.{with_one}
use Rattle.draw_runouts.proofs.numbers.fill_singles.Goals as goal

singles : (side : Side) (game : Game) (own : List ℕ) (rows : List (List ℕ)) (planes : List (List ℕ)) (row draw : List ℕ) → 0 < length rows → length draw ≡ 1 → IsDraw game own draw
    → ((card : ℕ) → card < 52 → length (with_card own card) ≡ own_size game → slice_index row card ≡ full_worth side game (with_card own card))
    → number_of (set rows 0 row) planes draw ≡ worth side game own draw
singles side game own [] planes row draw inside size is all = absurd (omega arith)
singles side game own (old ∷ rows) planes row [] inside size is all = absurd (omega arith)
singles side game own (old ∷ rows) planes row (a ∷ []) inside size is all =
    let r = is.rising in
    all a (omega (arith, r)) (ap length (with_one own a) ∙ is.full) ∙ ap (full_worth side game) (with_one own a)
singles side game own (old ∷ rows) planes row (a ∷ b ∷ draw) inside size is all = absurd (omega arith)

pub returns-clause-numbers : goal.returns-clause-numbers
returns-clause-numbers c = λ planes draw some size is.
    singles c.args.side c.args.game c.args.own c.args.rows.now planes c.fill_row.new.row draw (omega arith) size is (λ card l full. c.fill_row.ensures card (omega arith) l full)
