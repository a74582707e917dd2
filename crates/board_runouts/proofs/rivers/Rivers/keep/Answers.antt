use Rattle.std.proofs.Common.{◌∷◌, [], sym, ◌∙◌, arith}
use Rattle.card_sets.specs.State.{State, state_of}
use Rattle.board_runouts.proofs.BoardDealt.{IsScene, board_for, scene_of}
use Rattle.board_runouts.proofs.BoardRunouts.{board_alone}
use Rattle.board_runouts.proofs.RiverFacts.{worths_of_rank}
use Rattle.board_runouts.proofs.rivers.Rivers.keep.Goals as goal

pub worths_at-worths-requires : goal.worths_at-worths-requires
worths_at-worths-requires c =
    let st : State = state_of c.args.self.now.spot.table.known in
    let scene : IsScene st (c.args.card ∷ []) = scene_of c.args.self.now.spot (c.args.card ∷ []) c.requires.member in
    board_for st (c.args.card ∷ []) c.full_board-board.result scene (c.full_board-board.ensures ∙ sym (board_alone st (c.args.card ∷ []) scene.alone))

pub invariant_of-self : goal.invariant_of-self
invariant_of-self c =
    let st : State = state_of c.args.self.now.spot.table.known in
    let scene : IsScene st (c.args.card ∷ []) = scene_of c.args.self.now.spot (c.args.card ∷ []) c.requires.member in
    record {
      same = c.args.self.now.same;
      one = c.args.self.now.one;
      kept = λ pot other l is member.
          c.by-self.ensures pot ((other ∷ []) ∷ []) (omega (arith, l, c.args.self.now.spot.pots))
          (worths_of_rank st c.args.card other c.full_board-board.result c.worths_at-worths.result scene (scene_of c.args.self.now.spot (other ∷ []) member) (is ∙ c.rank-self.ensures.value) c.full_board-board.ensures c.worths_at-worths.ensures.highs c.worths_at-worths.ensures.lows);
    }
