use Rattle.hand_laws.proofs.lemmas.splits.BoardShares.{by_boards}
use Rattle.hand_laws.proofs.splits.law_pots_go_by_boards.Goals as goal

pub returns : goal.returns
returns c = by_boards
