-- The chips that each seat has put in and has left.
use Rattle.std.specs.Prelude.{ℕ}
use Rattle.card_sets.specs.PlayerSets.{players_where}
use Rattle.pot_layers.specs.declared.paid.Paid.{Paid}
use Rattle.betting_replay.specs.Table.{ReplayState, chips_at}
use Rattle.betting_replay.specs.Turns.{is_contender}

-- the chips that a seat has put in over the hand, from which the pots are made
unfoldable pub paid_by : ReplayState → ℕ → Paid
paid_by t p = record { seat = p; live = (chips_at t p).paid; dead = (chips_at t p).dead; contender = is_contender t p }

abbrev pub stack_at : ReplayState → ℕ → ℕ
stack_at t p = (chips_at t p).stack

-- the set of the contenders
unfoldable pub contenders : ReplayState → ℕ
contenders t = players_where (is_contender t) 11
