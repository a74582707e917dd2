use Rattle.report_laws.proofs.EvenKnown.{even_is_known}
use Rattle.report_laws.proofs.expect_laws.law_even_luck_is_known_by_the_hand.Goals as goal

pub returns : goal.returns
returns c = even_is_known
