-- What isn't known isn't settled.
use Rattle.std.proofs.Common.{◌≡◌, ℕ, Bool, false, List, Option, refl}
use Rattle.even_luck.specs.Seats.{Seated}
use Rattle.hand_verdict.specs.declared.parts.PartShare.{PartShare}
use Rattle.hand_verdict.specs.declared.parts.SplitHand.{SplitHand}
use Rattle.hand_verdict.specs.declared.settlement.Payment.{Payment}
use Rattle.hand_verdict.specs.declared.settlement.Settlement.{Settlement}
use Rattle.hand_verdict.specs.declared.verdicts.AllIn.{AllIn}
use Rattle.hand_verdict.specs.declared.verdicts.HandAudit.TheVariants.{Accepted}
use Rattle.hand_blocks.specs.Hands.{paid_lines, verdict_block}
use Rattle.hand_blocks.specs.Settles.{given_line, given_lines, accepted_settlement, settle_block}
use Rattle.report_laws.specs.KnownSettles.{SettlesWhatIsKnown}
use Rattle.report_sheet.specs.declared.form.Form.{Form}

unseen : (form : Form) (hundredths : Bool) (names : Seated) (k : ℕ) (payments : List Payment) → given_lines form hundredths names k false payments ≡ paid_lines form hundredths names false payments
unfolding given_line
unseen form hundredths names k payments = refl

misfit : (form : Form) (number : List ℕ) (s : Settlement) (all_in : AllIn) (names : Seated) (players : ℕ) (split : Option SplitHand) (parts : List (List PartShare)) → s.fits ≡ false
    → settle_block form number (Accepted s all_in names players) split parts ≡ verdict_block form number (Accepted s all_in names players)
unfolding accepted_settlement
misfit form number s all_in names players split parts e = rw e refl

pub settles_what_is_known : SettlesWhatIsKnown
settles_what_is_known = record { unseen = unseen; misfit = misfit }
