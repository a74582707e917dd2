use Rattle.hand_laws.proofs.lemmas.splits.NamedBoards.{boards_are_named}
use Rattle.hand_laws.proofs.splits.law_shares_name_their_boards.Goals as goal

pub returns : goal.returns
returns c = boards_are_named
