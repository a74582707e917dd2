-- What is known on the later streets of an accepted hand.
use Rattle.std.specs.Prelude.{◌≡◌, ℕ, false, List, Some, None, is_some}
use Rattle.std.specs.List.{list_all}
use Rattle.card_sets.specs.PlayerSets.{seats_in}
use Rattle.hand_events.specs.declared.events.Header.{Header}
use Rattle.hand_events.specs.declared.events.Event.{Event}
use Rattle.betting_replay.specs.declared.points.Point.{Point}
use Rattle.betting_replay.specs.Known.{cards_at}
use Rattle.showdown_tally.specs.declared.table.Table.{Table}
use Rattle.hand_audit.specs.CardsKnown.{KnowsCards}
use Rattle.hand_audit.specs.KnownTables.{ten}
use Rattle.hand_verdict.specs.declared.streets.StreetState.{StreetState}

-- there is no table only where the cards of a contender at the point aren't known on the street; a table knows those of each of them
pub record IsKnownOn (g : Header) (players : ℕ) (h : List Event) (found : Point) (state : StreetState) : Type 0 where
  pub unknown : state.table ≡ None → list_all (λ p. is_some (cards_at g h p state.street)) (seats_in found.contenders) ≡ false
  pub known : (table : Table) → state.table ≡ Some table → KnowsCards g players h state.street (ten 0 (seats_in found.contenders)) table
