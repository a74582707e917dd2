use Rattle.std.proofs.Common.{subst}
use Rattle.std.specs.Prelude.{Option}
use Rattle.card_sets.specs.declared.games.Side.{Side}
use Rattle.hand_audit.specs.Winning.{TellsSide}
use Rattle.hand_audit.proofs.worths.OnBoard.of_hands.Goals as goal

pub returns-clause-tells : goal.returns-clause-tells
returns-clause-tells c = record {
  first = subst (λ (side : Option Side). TellsSide c.of_hands.result side c.args.game c.args.board c.args.hands.now) c.first_side.ensures c.of_hands.ensures.tells;
  second = subst (λ (side : Option Side). TellsSide c.of_hands-2.result side c.args.game c.args.board c.args.hands.now) c.second_side.ensures c.of_hands-2.ensures.tells;
}
