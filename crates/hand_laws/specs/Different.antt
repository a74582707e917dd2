-- No two pots are for the same players.
use Rattle.std.specs.Prelude.{ℕ, List, map}
use Rattle.pot_layers.specs.declared.paid.Paid.{Paid}
use Rattle.pot_layers.specs.declared.paid.Pot.{Pot}
use Rattle.pot_layers.specs.Pots.{pots}
use Rattle.pot_layers.specs.Split.{Differ, InRange}

-- the seats of some players
abbrev pub seats_of : List Paid → List ℕ
seats_of ps = map (λ p. p.seat) ps

-- who may win each of some pots
abbrev pub players_of : List Pot → List ℕ
players_of pots = map (λ pot. pot.eligible) pots

-- where each player has a seat of the table of his own, the sets of those who may win a pot differ from pot to pot
abbrev pub PotsDiffer : Type 0
PotsDiffer = (ps : List Paid) → InRange (seats_of ps) → Differ (seats_of ps) → Differ (players_of (pots ps))
