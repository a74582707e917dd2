-- What the code answers of a settlement.
use Rattle.std.specs.Prelude.{◌≡◌, ℕ, ◌≤◌, ◌&&◌, nat_lt, Bool, if◌then◌else◌, List, ◌++◌, map, Option}
use Rattle.card_sets.specs.PlayerSets.{has_player}
use Rattle.hand_events.specs.declared.events.PotName.{PotName}
use Rattle.pot_layers.specs.declared.paid.Pot.{Pot}
use Rattle.hand_audit.specs.declared.collections.Collection.{Collection}
use Rattle.hand_audit.specs.declared.dues.Dues.{Dues}
use Rattle.hand_audit.specs.declared.pot_names.Source.{Source}
use Rattle.hand_verdict.specs.declared.settlement.Payment.{Payment}
use Rattle.hand_audit.specs.declared.settling.PotSettled.{PotSettled}
use Rattle.hand_audit.specs.declared.settling.SettledPots.{SettledPots}
use Rattle.hand_audit.specs.declared.settling.HandSettled.{HandSettled}
use Rattle.hand_audit.specs.Collections.{got_from}
use Rattle.hand_audit.specs.Parts.{hand_parts, is_contested, part_shares, part_shares_if, sides_in, units_of}
use Rattle.hand_audit.specs.Settle.{Showing, Settled, settled, beyond, pot_line, beyond_of, pot_lines, beyond_in, due_of_seat, is_alone, is_checked, parts_of, shares_if, sides_of_seat}

-- the seat is the only one that may win a pot
abbrev pub is_lone : ℕ → ℕ → Bool
is_lone eligible p = is_alone eligible && nat_lt p 11 && has_player eligible p

-- what a seat is due, and how many sides it wins: a lone player is due all units, and wins a side of each part
abbrev pub due_by : Dues → ℕ → ℕ
due_by dues p = if is_lone dues.eligible p then dues.units else units_of p dues.parts

abbrev pub sides_by : Dues → ℕ → ℕ
sides_by dues p = if is_lone dues.eligible p then dues.boards else sides_in p dues.parts

-- the payment of a seat by them; where it isn't known who wins it is due what it got
abbrev pub payment_by : Dues → (PotName → Bool) → List Collection → ℕ → Payment
payment_by dues test all p = record { seat = p; got = got_from test p all; due = if dues.checked then due_by dues p else got_from test p all }

-- they are what the rules give of a pot
pub record AreDues (dues : Dues) (s : Showing) (eligible net : ℕ) : Type 0 where
  pub checked : dues.checked ≡ is_checked s eligible
  pub parts : dues.parts ≡ part_shares_if (is_checked s eligible && is_contested eligible) s eligible net
  pub units : (p : ℕ) → 1 ≤ p → p ≤ 10 → due_by dues p ≡ due_of_seat p (shares_if (is_checked s eligible) s eligible (parts_of s net))
  pub sides : (p : ℕ) → 1 ≤ p → p ≤ 10 → sides_by dues p ≡ sides_of_seat p (shares_if (is_checked s eligible) s eligible (parts_of s net))

-- it is the settlement of a pot, by the collections from a source
pub record IsOfPot (s : Showing) (source : Source) (pot : Pot) (one : PotSettled) : Type 0 where
  pub line : one.line ≡ pot_line s source pot
  pub parts : one.parts ≡ part_shares s (pot_line s source pot)
  pub beyond : one.beyond ≡ beyond_of s source pot

-- the pots have grown by those from a number on, and this is the first payment beyond its tolerance
pub record AreOfPots (s : Showing) (count number : ℕ) (all : List Pot) (old new : SettledPots) (first : Option Payment) : Type 0 where
  pub lines : new.lines.items ≡ old.lines.items ++ pot_lines s count number all
  pub parts : new.parts.items ≡ old.parts.items ++ map (part_shares s) (pot_lines s count number all)
  pub beyond : first ≡ beyond_in s count number all

-- what the code answers, as the definition has it
abbrev pub seen : HandSettled → Settled
seen one = record { fits = one.fits; pots = one.pots; paid = one.paid }

-- it is the settlement of a hand
pub record IsOfHand (s : Showing) (one : HandSettled) : Type 0 where
  pub settled : seen one ≡ settled s
  pub parts : one.parts.items ≡ hand_parts s
  pub beyond : one.beyond ≡ beyond s
