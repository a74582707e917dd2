-- Pots are split by the rules.
use Rattle.std.specs.Prelude.{◌≡◌, ℕ, ◌<◌, ◌≤◌, true, List, [], ◌∷◌, ◌++◌, length, Some, None, slice_get, All}
use Rattle.card_sets.specs.PlayerSets.{seats_in}
use Rattle.pot_layers.specs.declared.paid.Pot.{Pot}
use Rattle.pot_layers.specs.Pots.{pots}
use Rattle.pot_layers.specs.Split.{first_half, second_half}
use Rattle.hand_audit.specs.declared.pot_names.Source.{Source}
use Rattle.hand_audit.specs.declared.pot_names.Source.TheVariants.{Numbered}
use Rattle.hand_audit.specs.Settle.{Showing, Part, parts_of, net_of, is_alone, is_checked, first_winners, pay_of, shares_among, shares_of_pot, due_of_seat, sides_of_seat, distance}

-- what a seat got of a pot is due to it by the rules, but for a unit for each side of a part that it wins
pub record IsRightly (s : Showing) (number : ℕ) (pot : Pot) (p : ℕ) : Type 0 where
  pub due : is_checked s pot.eligible ≡ true → (pay_of s (Numbered (length (pots s.paid)) number) pot p).due ≡ due_of_seat p (shares_of_pot s (Numbered (length (pots s.paid)) number) pot)
  pub near : distance (pay_of s (Numbered (length (pots s.paid)) number) pot p).got (pay_of s (Numbered (length (pots s.paid)) number) pot p).due ≤ sides_of_seat p (shares_of_pot s (Numbered (length (pots s.paid)) number) pot)

-- so is what each seat got of each pot
abbrev pub IsSplitRightly : Showing → Type 0
IsSplitRightly s = (number : ℕ) (pot : Pot) → slice_get (pots s.paid) number ≡ Some pot → (p : ℕ) → 1 ≤ p → p ≤ 10 → IsRightly s number pot p

-- of each part of each pot of two players or more of which it is known who wins, somebody wins the first side
abbrev pub IsWonBySomebody : Showing → Type 0
IsWonBySomebody s = (number : ℕ) (pot : Pot) → slice_get (pots s.paid) number ≡ Some pot → is_checked s pot.eligible ≡ true → 2 ≤ length (seats_in pot.eligible)
    → All (λ (part : Part). 0 < first_winners s part.board pot.eligible) (parts_of s (net_of s (Numbered (length (pots s.paid)) number)))

-- what is split of a pot of which it is known who wins: where there is no second board all that was collected from it, by the board;
-- else the half that is rounded up by the board, and the other by the second board
pub record GoesByBoards (s : Showing) (source : Source) (pot : Pot) : Type 0 where
  pub once : s.second ≡ None → shares_of_pot s source pot
      ≡ shares_among (is_alone pot.eligible) s pot.eligible (record { units = net_of s source; board = s.board })
  pub twice : (second : List ℕ) → s.second ≡ Some second → shares_of_pot s source pot
      ≡ shares_among (is_alone pot.eligible) s pot.eligible (record { units = first_half (net_of s source); board = s.board })
      ++ shares_among (is_alone pot.eligible) s pot.eligible (record { units = second_half (net_of s source); board = second })

abbrev pub PotsGoByBoards : Type 0
PotsGoByBoards = (s : Showing) (source : Source) (pot : Pot) → is_checked s pot.eligible ≡ true → GoesByBoards s source pot

-- who is alone in a pot is due all that was collected from it, and wins a side of each part
pub record IsDueAll (s : Showing) (source : Source) (pot : Pot) (p : ℕ) : Type 0 where
  pub due : due_of_seat p (shares_of_pot s source pot) ≡ net_of s source
  pub sides : sides_of_seat p (shares_of_pot s source pot) ≡ length (parts_of s (net_of s source))

abbrev pub LoneAreDueAll : Type 0
LoneAreDueAll = (s : Showing) (source : Source) (pot : Pot) (p : ℕ) → seats_in pot.eligible ≡ p ∷ [] → IsDueAll s source pot p
