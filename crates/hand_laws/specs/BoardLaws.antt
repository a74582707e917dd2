-- By which board each share of a pot goes.
use Rattle.std.specs.Prelude.{◌≡◌, ℕ, ◌-◌, ◌&&◌, true, false, List, [], ◌∷◌, ◌++◌}
use Rattle.hand_verdict.specs.declared.parts.PartShare.{PartShare}
use Rattle.hand_verdict.specs.declared.settlement.PotLine.{PotLine}
use Rattle.hand_audit.specs.Settle.{Showing, Part, parts_of}
use Rattle.hand_audit.specs.Parts.{is_contested, part_shares, shares_on}

-- some shares go by the board with a number
abbrev pub OnBoard : ℕ → List PartShare → Type 0
OnBoard board [] = Unit {0}
OnBoard board (share ∷ later) = (share.board ≡ board) × OnBoard board later

-- where a pot has one part, each share names the first board. Where it has two, the shares are those of the first part, which name
-- the first board, and then those of the second, which name the second. A pot of which it isn't known who wins it has none
pub record SharesNameTheirBoards (s : Showing) (pot : PotLine) : Type 0 where
  pub once : (part : Part) → parts_of s (pot.gross - pot.rake) ≡ part ∷ [] → OnBoard 1 (part_shares s pot)
  pub twice : (first second : Part) → parts_of s (pot.gross - pot.rake) ≡ first ∷ second ∷ [] → (pot.checked && is_contested pot.eligible) ≡ true
      → part_shares s pot ≡ shares_on s pot.eligible 1 first ++ shares_on s pot.eligible 2 second
  pub named : (board : ℕ) (part : Part) → OnBoard board (shares_on s pot.eligible board part)
  pub unseen : pot.checked ≡ false → part_shares s pot ≡ []

abbrev pub BoardsAreNamed : Type 0
BoardsAreNamed = (s : Showing) (pot : PotLine) → SharesNameTheirBoards s pot
