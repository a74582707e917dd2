use Rattle.std.proofs.Common.{◌≡◌, ◌+◌, ◌<◌, ℕ, length}
use Rattle.card_sets.specs.Cards.{with_card}
use Rattle.draw_runouts.specs.Worth.{ArePairsFrom, plane_base}
use Rattle.draw_runouts.proofs.numbers.fill_planes.Given as goal

abbrev pub invariant-loop-number : goal.invariant-loop-number
invariant-loop-number l = record {
  planes : (low : ℕ) → low < l.number → ArePairsFrom (low + 1) l.side l.game (with_card l.own low) l.planes (plane_base low);
  places : length l.planes ≡ 1327;
}
