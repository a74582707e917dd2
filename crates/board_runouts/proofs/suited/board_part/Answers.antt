use Rattle.std.proofs.Common.{◌++◌, List, ℕ, ap, ◌∙◌, sym, arith, length}
use Rattle.card_sets.specs.State.{State, state_of}
use Rattle.board_runouts.specs.Pairs.{cards_of_pair}
use Rattle.board_runouts.proofs.BoardDealt.{IsScene, board_five, no_suit, with_suit}
use Rattle.board_runouts.proofs.BoardRunouts.{board_alone}
use Rattle.board_runouts.proofs.FrontFacts.{board_with, scene_with}
use Rattle.board_runouts.proofs.suited.board_part.Goals as goal

pub suit_of_three-requires-clause-board : goal.suit_of_three-requires-clause-board
suit_of_three-requires-clause-board c =
    let st : State = state_of c.args.front.now.spot.now.table.known in
    let set : List ℕ = c.args.front.now.taken ++ cards_of_pair c.args.pair.now in
    let scene : IsScene st set = scene_with c.args.front.now c.args.pair.now c.requires.member in
    omega (arith, ap length (board_with c.args.front.now c.args.pair.now c.with.result c.with-set.result c.union-board.result c.requires.member c.with.ensures c.with-set.ensures c.union-board.ensures ∙ sym (board_alone st set scene.alone)), board_five st set scene)

pub returns-in_default : goal.returns-in_default
returns-in_default c =
    no_suit (state_of c.args.front.now.spot.now.table.known) (c.args.front.now.taken ++ cards_of_pair c.args.pair.now) c.union-board.result (scene_with c.args.front.now c.args.pair.now c.requires.member) (board_with c.args.front.now c.args.pair.now c.with.result c.with-set.result c.union-board.result c.requires.member c.with.ensures c.with-set.ensures c.union-board.ensures) c.in_default.ensures

pub returns : goal.returns
returns c =
    with_suit (state_of c.args.front.now.spot.now.table.known) (c.args.front.now.taken ++ cards_of_pair c.args.pair.now) c.union-board.result c.of_suit-cards.result c.in-Some.suit (scene_with c.args.front.now c.args.pair.now c.requires.member) (board_with c.args.front.now c.args.pair.now c.with.result c.with-set.result c.union-board.result c.requires.member c.with.ensures c.with-set.ensures c.union-board.ensures) c.in-Some.ensures c.of_suit-cards.ensures
