-- Which pot a collection names. Source: the names of PokerStars.
use Rattle.std.specs.Prelude.{ℕ, ◌+◌, ◌==◌, ◌&&◌, nat_le, nat_lt, Bool, true, if◌then◌else◌, List, [], ◌∷◌, length, Option, Some, None, is_some}
use Rattle.std.specs.List.{list_all}
use Rattle.hand_events.specs.declared.events.PotName.{PotName}
use Rattle.hand_events.specs.declared.events.PotName.TheVariants.{Only, Main, Side, SideNumber}
use Rattle.pot_layers.specs.declared.paid.Pot.{Pot}
use Rattle.betting_replay.specs.Places.{is_at}
use Rattle.hand_audit.specs.declared.collections.Collection.{Collection}
use Rattle.hand_audit.specs.declared.pot_names.Source.{Source}
use Rattle.hand_audit.specs.declared.pot_names.Source.TheVariants.{Any, Numbered}
use Rattle.hand_audit.specs.Collections.{taken_from, any_from}

-- the number of the pot that a name is for, by the number of pots: one is `pot`, two are `main pot` and `side pot`, more are
-- `main pot`, `side pot-1` and so on
unfoldable pub pot_named : ℕ → PotName → Option ℕ
pot_named count Only = if count == 1 then Some 0 else None
pot_named count Main = if nat_le 2 count then Some 0 else None
pot_named count Side = if count == 2 then Some 1 else None
pot_named count (SideNumber n) = if nat_le 3 count && nat_le 1 n && nat_lt n count then Some n else None

-- the name is for pot number k
abbrev pub names_pot : ℕ → ℕ → PotName → Bool
names_pot count k pot = is_at k (pot_named count pot)

-- whether a collection from the pot of a name counts
abbrev pub counts_from : Source → PotName → Bool
counts_from Any pot = true
counts_from (Numbered count k) pot = names_pot count k pot

-- each of the pots, numbered from k on, has a collection, and no more is collected from it than it holds
abbrev pub each_taken : ℕ → ℕ → List Pot → List Collection → Bool
each_taken count k [] all = true
each_taken count k (pot ∷ pots) all =
    any_from (names_pot count k) all && nat_le (taken_from (names_pot count k) all) pot.units && each_taken count (k + 1) pots all

-- the names fit: each collection names a pot, each pot has one, and no pot has more collected than it holds
unfoldable pub fits : List Pot → List Collection → Bool
fits pots all = list_all (λ c. is_some (pot_named (length pots) c.pot)) all && each_taken (length pots) 0 pots all
