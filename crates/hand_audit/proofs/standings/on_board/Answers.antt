use Rattle.hand_audit.proofs.lemmas.splits.Winners.{tells_hands}
use Rattle.hand_audit.proofs.standings.on_board.Goals as goal

pub returns-clause-tells : goal.returns-clause-tells
returns-clause-tells c = tells_hands c.of_hands.result c.args.game c.args.replay.now c.args.board c.full_hands-hands.result c.full_hands-hands.ensures.value c.of_hands.ensures.tells
