use Rattle.rank_laws.proofs.GroupsInOrder.{groups-AreRanksInOrder}
use Rattle.rank_laws.proofs.high.law_groups_are_in_order.Goals as goal

pub returns : goal.returns
returns c = groups-AreRanksInOrder
