-- How many sides of a pot a seat wins, and that a payment within as many units is accepted.
use Rattle.std.specs.Prelude.{◌≡◌, ℕ, ◌≤◌, true, false, List, [], ◌∷◌, length, None, Some, slice_get, count_by}
use Rattle.card_sets.specs.PlayerSets.{has_player}
use Rattle.pot_layers.specs.declared.paid.Pot.{Pot}
use Rattle.pot_layers.specs.Pots.{pots}
use Rattle.hand_audit.specs.declared.pot_names.Source.{Source}
use Rattle.hand_audit.specs.declared.pot_names.Source.TheVariants.{Numbered}
use Rattle.hand_audit.specs.Settle.{Showing, Part, beyond, distance, first_winners, is_alone, is_checked, net_of, parts_of, pay_of, second_winners, shares_of_pot, sides_of_seat}

-- the sets of winners of some parts of a pot: for each part those of its first side and those of its second
abbrev pub winners_by_side : Showing → ℕ → List Part → List ℕ
winners_by_side s eligible [] = []
winners_by_side s eligible (part ∷ parts) =
    first_winners s part.board eligible ∷ second_winners s part.board eligible ∷ winners_by_side s eligible parts

-- of a pot of which it is known who wins, and that nobody is alone in, a seat wins as many sides as sets of winners have it
abbrev pub SidesAreSets : Type 0
SidesAreSets = (s : Showing) (source : Source) (pot : Pot) (seat : ℕ) → is_checked s pot.eligible ≡ true → is_alone pot.eligible ≡ false
    → 1 ≤ seat → seat ≤ 10
    → sides_of_seat seat (shares_of_pot s source pot)
    ≡ count_by (λ winners. has_player winners seat) (winners_by_side s pot.eligible (parts_of s (net_of s source)))

-- what each seat got of a pot is due to it, but for a unit for each side that it wins
abbrev pub IsNear : Showing → ℕ → Pot → Type 0
IsNear s number pot = (p : ℕ) → 1 ≤ p → p ≤ 10
    → distance (pay_of s (Numbered (length (pots s.paid)) number) pot p).got (pay_of s (Numbered (length (pots s.paid)) number) pot p).due
    ≤ sides_of_seat p (shares_of_pot s (Numbered (length (pots s.paid)) number) pot)

-- where that is so of each pot no payment is refused
abbrev pub NearIsAccepted : Type 0
NearIsAccepted = (s : Showing) → ((number : ℕ) (pot : Pot) → slice_get (pots s.paid) number ≡ Some pot → IsNear s number pot) → beyond s ≡ None
