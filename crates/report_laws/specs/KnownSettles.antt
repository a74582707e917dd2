-- What a settlement says if the winners of a pot aren't known.
use Rattle.std.specs.Prelude.{◌≡◌, ℕ, Bool, false, List, Option}
use Rattle.even_luck.specs.Seats.{Seated}
use Rattle.hand_verdict.specs.declared.parts.PartShare.{PartShare}
use Rattle.hand_verdict.specs.declared.parts.SplitHand.{SplitHand}
use Rattle.hand_verdict.specs.declared.settlement.Payment.{Payment}
use Rattle.hand_verdict.specs.declared.settlement.Settlement.{Settlement}
use Rattle.hand_verdict.specs.declared.verdicts.AllIn.{AllIn}
use Rattle.hand_verdict.specs.declared.verdicts.HandAudit.TheVariants.{Accepted}
use Rattle.hand_blocks.specs.Hands.{paid_lines, verdict_block}
use Rattle.hand_blocks.specs.Settles.{given_lines, settle_block}
use Rattle.report_sheet.specs.declared.form.Form.{Form}

-- for a pot whose winners aren't known, a settlement says what the verdict says: who received what; for a hand whose
-- collections don't fit the pots, the settlement is the verdict
pub record SettlesWhatIsKnown : Type 0 where
  pub unseen : (form : Form) (hundredths : Bool) (names : Seated) (k : ℕ) (payments : List Payment)
      → given_lines form hundredths names k false payments ≡ paid_lines form hundredths names false payments
  pub misfit : (form : Form) (number : List ℕ) (s : Settlement) (all_in : AllIn) (names : Seated) (players : ℕ)
      (split : Option SplitHand) (parts : List (List PartShare)) → s.fits ≡ false
      → settle_block form number (Accepted s all_in names players) split parts
      ≡ verdict_block form number (Accepted s all_in names players)
