-- What the rules give each seat of a hand: by its parts, and beside what was paid.
use Rattle.std.specs.Prelude.{◌≡◌, ℕ, ◌≤◌, true}
use Rattle.pot_layers.specs.declared.paid.Pot.{Pot}
use Rattle.hand_laws.specs.Chips.{over_seats}
use Rattle.hand_audit.specs.Parts.{is_contested, part_shares, units_of}
use Rattle.hand_audit.specs.Settle.{Showing, due_of_seat, is_checked, net_of, pot_line, shares_of_pot}
use Rattle.hand_verdict.specs.declared.parts.SplitHand.{SplitHand}
use Rattle.hand_audit.specs.declared.pot_names.Source.{Source}
use Rattle.hand_verdict.specs.declared.settlement.Settlement.{Settlement}
use Rattle.hand_verdict.specs.SeatSums.{PlayersAreDue, due_of, got_of}

-- of a pot of which it is known who wins it, that two players or more may win, and that no more was collected from than it holds, the
-- shares of the parts give each seat what it is due
abbrev pub PartsGiveDues : Type 0
PartsGiveDues = (s : Showing) (source : Source) (pot : Pot) (p : ℕ) → is_checked s pot.eligible ≡ true → is_contested pot.eligible ≡ true → net_of s source ≤ pot.units
    → units_of p (part_shares s (pot_line s source pot)) ≡ due_of_seat p (shares_of_pot s source pot)

-- all seats are due what they got together
abbrev pub DuesAddUp : Settlement → Type 0
DuesAddUp settlement = over_seats (due_of settlement) ≡ over_seats (got_of settlement)

-- so it is of a hand that is rejected for its payments alone, whose names fit the pots
pub record SplitAddsUp (split : SplitHand) : Type 0 where
  pub fits : split.settlement.fits ≡ true
  pub dues : DuesAddUp split.settlement
  pub players : PlayersAreDue split.settlement split.players
