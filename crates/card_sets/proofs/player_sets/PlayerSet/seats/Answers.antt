use Rattle.card_sets.specs.PlayerSetLaws.{seats_where, players_in-seats}
use Rattle.card_sets.proofs.player_sets.PlayerSet.seats.Goals as goal

pub returns-clause-value : goal.returns-clause-value
returns-clause-value c = rw (← c.self.view_is) (seats_where c.self.inside.bits)

pub returns-clause-seats : goal.returns-clause-seats
returns-clause-seats c = rw (← c.self.view_is) (players_in-seats c.self.inside.bits)
