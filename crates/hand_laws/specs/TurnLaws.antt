-- Whose turn it is: nobody is passed over around the table, said by how far one goes from seat to seat, and an act stands in turn alone.
use Rattle.std.specs.Prelude.{◌≡◌, ◌≤◌, ◌<◌, ◌+◌, ◌-◌, ℕ, Bool, true, false, if◌then◌else◌, List, ◌∷◌, Some, nat_lt, None}
use Rattle.hand_events.specs.declared.events.Header.{Header}
use Rattle.hand_events.specs.declared.events.Event.{Event}
use Rattle.hand_events.specs.declared.events.Event.TheVariants.{Act, Street}
use Rattle.hand_events.specs.declared.events.Act.{Act as Deed}
use Rattle.hand_events.specs.declared.faults.BetFault.TheVariants.{OutOfTurn}
use Rattle.betting_replay.specs.Accepted.{IsAccepted}
use Rattle.betting_replay.specs.Faults.{legal}
use Rattle.betting_replay.specs.Limits.{Fits}
use Rattle.betting_replay.specs.Sums.{last_actor}
use Rattle.betting_replay.specs.TableAfter.{table_of, ReplayState}
use Rattle.betting_replay.specs.Turns.{owes, may_act, owes_before, next_to_act}
use Rattle.hand_events.specs.declared.events.BoardNumber.{BoardNumber}
use Rattle.card_sets.specs.declared.streets.Street.{Street as StreetName}

-- how many seats one goes up from a seat, and around the table, to come to another: all ten where the two are one
abbrev pub way : ℕ → ℕ → ℕ
way from to = if nat_lt from to then to - from else 10 + to - from

-- a seat of the table stands strictly between two: one comes to it sooner
pub record IsBetween (from seat to : ℕ) : Type 0 where
  pub first : 1 ≤ seat
  pub last : seat ≤ 10
  pub sooner : way from seat < way from to

-- a seat that owes an act stands strictly between two, and nobody who owes one stands between the first and it
pub record IsNearest (test : ℕ → Bool) (from seat to : ℕ) : Type 0 where
  pub between : IsBetween from seat to
  pub owing : test seat ≡ true
  pub nobody : (other : ℕ) → IsBetween from other seat → test other ≡ false

-- the last actor of the street and the nearest who owes an act after him, before another
pub record PassesOver (header : Header) (players : ℕ) (h : List Event) (seat to : ℕ) : Type 0 where
  pub from : ℕ
  pub acted : last_actor header h ≡ Some from
  pub nearest : IsNearest (owes (table_of header players h)) from seat to

-- after accepted events, where an act stands, whoever is strictly between the last actor and its player owes nothing; and an
-- act that is out of turn is told the nearest of those who do
pub record PassesNobodyOver : Type 0 where
  pub stands : (header : Header) (players : ℕ) (h : List Event) (to : ℕ) (act : Deed)
      (all_in : Bool) (shown : List ℕ)
      → IsAccepted header players (Act to act all_in shown ∷ h) → (from : ℕ)
      → last_actor header h ≡ Some from
      → (seat : ℕ) → IsBetween from seat to → owes (table_of header players h) seat ≡ false
  pub refused : (header : Header) (players : ℕ) (h : List Event) (to : ℕ) (act : Deed)
      (all_in : Bool) (shown : List ℕ)
      → IsAccepted header players h → Fits (Act to act all_in shown) → (seat : ℕ)
      → legal header players h (Act to act all_in shown) ≡ Some (OutOfTurn seat)
      → PassesOver header players h seat to

-- the seat may act at the table, and nobody who owes an act comes before it
pub record IsInTurn (t : ReplayState) (p : ℕ) : Type 0 where
  pub may : may_act t p ≡ true
  pub first : owes_before t p ≡ None

-- an act stands only where it is in turn, and a marker only where nobody owes an act
pub record TakesTurns : Type 0 where
  pub acts : (header : Header) (players : ℕ) (h : List Event) (seat : ℕ) (act : Deed)
      (all_in : Bool) (shown : List ℕ)
      → legal header players h (Act seat act all_in shown) ≡ None
      → IsInTurn (table_of header players h) seat
  pub streets : (header : Header) (players : ℕ) (h : List Event) (street : StreetName)
      (number : BoardNumber) (cards : List ℕ)
      → legal header players h (Street street number cards) ≡ None
      → next_to_act (table_of header players h) ≡ None
