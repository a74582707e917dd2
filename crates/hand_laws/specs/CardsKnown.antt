-- Whether cards are known at an all-in point.
use Rattle.std.specs.Prelude.{Bool, true, List, Option, Some, None, is_some}
use Rattle.std.specs.List.{list_all}
use Rattle.card_sets.specs.PlayerSets.{seats_in}
use Rattle.betting_replay.specs.declared.points.Point.{Point}
use Rattle.hand_events.specs.declared.events.Header.{Header}
use Rattle.hand_events.specs.declared.events.Event.{Event}
use Rattle.betting_replay.specs.Known.{cards_at}

-- whether the cards of each contender at an all-in point are known there
abbrev pub all_known_at : Header → List Event → Option Point → Bool
all_known_at g h None = true
all_known_at g h (Some found) = list_all (λ p. is_some (cards_at g h p found.street)) (seats_in found.contenders)
