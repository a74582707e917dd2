use Rattle.std.proofs.Common.{◌≡◌, ◌+◌, [], ◌∷◌, length, map, take}
use Rattle.showdown_tally.specs.Deals.{deal_of}
use Rattle.showdown_tally.specs.SideCounts.{CountsGrow}
use Rattle.board_runouts.proofs.rivers.Rivers.count_cards.Given as goal

abbrev pub invariant-loop-card : goal.invariant-loop-card
invariant-loop-card g l = record {
  counts : CountsGrow (deal_of l.fn.self.spot.table) (map (λ card. (card ∷ []) ∷ []) (take l.card-index l.cards)) l.fn.counts l.counts;
  places : length l.counts ≡ length l.fn.counts;
  steps : l.steps ≡ l.fn.steps + l.card-index;
  spot : l.self.spot ≡ l.fn.self.spot;
  table : l.self.table ≡ l.fn.self.table;
}
