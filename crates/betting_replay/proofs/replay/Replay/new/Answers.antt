use Rattle.std.proofs.Common.{refl}
use Rattle.card_sets.specs.Cards.{cards_where}
use Rattle.betting_replay.specs.Seats.{by_seat}
use Rattle.betting_replay.specs.TableAfter.{point}
use Rattle.betting_replay.proofs.replay.Replay.new.Goals as goal

pub returns : goal.returns
unfolding by_seat cards_where point
returns c = record { is = rw (c.of.ensures, c.empty.ensures, c.empty-2.ensures, c.new.ensures, c.new-2.ensures, c.new-3.ensures, c.new-4.ensures) refl }
