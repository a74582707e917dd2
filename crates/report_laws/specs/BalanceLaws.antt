-- What the balance of a run says about its hands, and what it adds up to if the hands are those of some lines.
use Rattle.std.specs.Prelude.{◌≡◌, ℕ, ◌+◌, ◌==◌, Bool, false, if◌then◌else◌, List, Some, count_by, filter}
use Rattle.std.specs.Bool.{beq}
use Rattle.std.specs.List.{IsDistinct, sum_by}
use Rattle.std.specs.Str.{bytes_eq}
use Rattle.card_sets.specs.PlayerSets.{seats_in}
use Rattle.hand_audit.specs.SeatChips.{chips_of}
use Rattle.hand_audit.specs.Verdict.{audit_of}
use Rattle.hand_verdict.specs.declared.seat_chips.AuditedChips.{AuditedChips}
use Rattle.hand_verdict.specs.declared.verdicts.HandAudit.{HandAudit}
use Rattle.hand_verdict.specs.declared.verdicts.HandAudit.TheVariants.{Rejected, Accepted}
use Rattle.player_totals.specs.Balance.{balance_of}
use Rattle.even_luck.specs.Seats.{Seated}
use Rattle.player_totals.specs.Totals.{Player, playing}
use Rattle.player_totals.specs.declared.balance_sums.BalanceSums.{BalanceSums}

-- a hand without a rejected line that counts in a unit: hundredths, or chips
abbrev pub counts_in : Bool → HandAudit → Bool
counts_in hundredths (Rejected line cause unit) = false
counts_in hundredths (Accepted s all_in names players) = beq hundredths s.hundredths

-- the hands that count in a unit
abbrev pub hands_of_unit : Bool → List AuditedChips → List AuditedChips
hands_of_unit hundredths hands = filter (λ hand. counts_in hundredths hand.audit) hands

-- the stated rake of a hand, or 0 if a line of the hand is rejected
abbrev pub rake_of : HandAudit → ℕ
rake_of (Rejected line cause unit) = 0
rake_of (Accepted s all_in names players) = s.rake

-- the rakes of the hands of a unit
abbrev pub rakes_in : Bool → List AuditedChips → ℕ
rakes_in hundredths hands =
    sum_by (λ hand. if counts_in hundredths hand.audit then rake_of hand.audit else 0) hands

-- the sum of a figure, such as the chips put in, over the rows of a unit
abbrev pub rows_have : Bool → (BalanceSums → ℕ) → List (Player × BalanceSums) → ℕ
rows_have hundredths figure rows =
    sum_by (λ row. if beq row.0.hundredths hundredths then figure row.1 else 0) rows

-- the names are those of the players of a hand: one for each seat of a player and none for the others, and no two are
-- the same
pub record AreNamed (names : Seated) (players : ℕ) : Type 0 where
  pub each : (seat : ℕ) → count_by (λ who. who.0 == seat) (playing names players) ≡ count_by (λ p. p == seat) (seats_in players)
  pub apart : IsDistinct (λ a b. bytes_eq a.1 b.1) (playing names players)

abbrev pub HasNames : HandAudit → Type 0
HasNames (Rejected line cause unit) = Unit {0}
HasNames (Accepted s all_in names players) = AreNamed names players

-- a hand is that of some lines, and each of its players has a name of their own
pub record IsAudited (hand : AuditedChips) : Type 0 where
  pub number : ℕ
  pub lines : List (List ℕ)
  pub verdict : audit_of number lines ≡ Some hand.audit
  pub chips : hand.chips ≡ chips_of hand.audit lines
  pub named : HasNames hand.audit

-- the rows of a unit together put in what they received plus the rakes of its hands, so their nets add up to minus the
-- rakes
abbrev pub LosesRakes : List AuditedChips → Type 0
LosesRakes hands = (hundredths : Bool)
    → rows_have hundredths (λ sums. sums.put) (balance_of hands).players
    ≡ rows_have hundredths (λ sums. sums.got) (balance_of hands).players + rakes_in hundredths hands
