use Rattle.std.proofs.Common.{◌≡◌, ◌∷◌, [], ℕ, ap, sym, ◌∙◌, subst}
use Rattle.std.specs.Prelude.{slice_index}
use Rattle.card_sets.specs.State.{State, state_of}
use Rattle.showdown_tally.specs.Deals.{deal_of}
use Rattle.showdown_tally.specs.Showdown.{board_after}
use Rattle.board_runouts.specs.Highs.{high_of}
use Rattle.board_runouts.specs.Rivers.{IsShortFor}
use Rattle.board_runouts.proofs.BoardDealt.{IsScene, board_for, high_with, scene_of}
use Rattle.board_runouts.proofs.BoardRunouts.{board_alone}
use Rattle.board_runouts.proofs.RiverFacts.{each_high, ranked_high}
use Rattle.board_runouts.proofs.rivers.high_winners.Goals as goal

pub returns-then-is_short-clause-value : goal.returns-then-is_short-clause-value
returns-then-is_short-clause-value c =
    let st : State = state_of c.args.spot.now.table.known in
    let scene : IsScene st (c.args.card ∷ []) = scene_of c.args.spot.now (c.args.card ∷ []) c.requires.member in
    let S : ℕ → Type 0 = λ suit. IsShortFor c.args.spot.now.most suit in
    ap (slice_index c.args.won.now.highs) c.from.ensures
    ∙ ranked_high (deal_of c.args.spot.now.table) c.args.pot c.args.card _ _ c.args.spot.now.most c.law_values_keep_order.ensures scene c.are_hands.ensures c.args.spot.now.greatest (subst S c.suit.ensures.value (c.is_short.ensures c.if-is_short.true)) c.requires.won

pub high_set-requires-clause-full : goal.high_set-requires-clause-full
high_set-requires-clause-full c =
    let st : State = state_of c.args.spot.now.table.known in
    let scene : IsScene st (c.args.card ∷ []) = scene_of c.args.spot.now (c.args.card ∷ []) c.requires.member in
    board_for st (c.args.card ∷ []) c.full_board-board.result scene (c.full_board-board.ensures ∙ sym (board_alone st (c.args.card ∷ []) scene.alone))

pub returns-clause-value : goal.returns-clause-value
returns-clause-value c =
    let st : State = state_of c.args.spot.now.table.known in
    let scene : IsScene st (c.args.card ∷ []) = scene_of c.args.spot.now (c.args.card ∷ []) c.requires.member in
    let there : c.full_board-board.result ≡ board_after st ((c.args.card ∷ []) ∷ []) = c.full_board-board.ensures ∙ sym (board_alone st (c.args.card ∷ []) scene.alone) in
    each_high (deal_of c.args.spot.now.table) c.args.pot c.args.card c.high_set.result c.law_values_keep_order.ensures scene c.are_hands.ensures
    (c.high_set.ensures.set (high_of st ((c.args.card ∷ []) ∷ [])) (λ h l. high_with st (c.args.card ∷ []) c.full_board-board.result h scene there l))
