use Rattle.std.proofs.Common.{◌∙◌, sym}
use Rattle.board_ranks.proofs.HighCalls.{as_omaha, four_own}
use Rattle.board_ranks.proofs.HighLaws.{omaha_plain_is}
use Rattle.board_ranks.proofs.threes.Threes.plain_value.Goals as goal

pub returns-in-Omaha : goal.returns-in-Omaha
returns-in-Omaha c = c.worth.ensures ∙ sym (omaha_plain_is c.args.game (as_omaha c.args.game c.in-Omaha.is) c.args.own c.args.board)

pub worth-requires-clause-own : goal.worth-requires-clause-own
worth-requires-clause-own c = c.requires.own ∙ four_own c.args.game c.in-Omaha.is
