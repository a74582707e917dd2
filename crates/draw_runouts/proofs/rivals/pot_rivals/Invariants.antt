use Rattle.std.proofs.Common.{◌≡◌, ◌<◌, ℕ, length}
use Rattle.showdown_tally.specs.Deals.{deal_of}
use Rattle.showdown_tally.specs.Showdown.{eligible_in}
use Rattle.draw_runouts.specs.LastHand.{value_with, won_at, won_set}
use Rattle.draw_runouts.proofs.rivals.pot_rivals.Given as goal

abbrev pub invariant-loop-pot : goal.invariant-loop-pot
invariant-loop-pot l = record {
  winners : (pot value : ℕ) → pot < l.pot → won_at l.all pot value ≡ won_set l.qualify (value_with l.values l.last value) (eligible_in (deal_of l.table) pot);
  ten : length l.all ≡ 10;
}
