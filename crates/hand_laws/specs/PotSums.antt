-- The pots of an accepted hand add up.
use Rattle.std.specs.Prelude.{◌≡◌, ◌+◌, ◌<◌, ℕ, List, All, length, sum_by}
use Rattle.hand_verdict.specs.declared.settlement.Payment.{Payment}
use Rattle.hand_verdict.specs.declared.settlement.PotLine.{PotLine}
use Rattle.hand_verdict.specs.declared.settlement.Settlement.{Settlement}

-- what all seats got by some payments, and what they are due
abbrev pub all_got : List Payment → ℕ
all_got pays = sum_by (λ pay. pay.got) pays

abbrev pub all_due : List Payment → ℕ
all_due pays = sum_by (λ pay. pay.due) pays

-- what was collected from a pot and its rake are what it holds, and what is due of it is as much as was collected
pub record IsPaidOut (pot : PotLine) : Type 0 where
  pub collected : all_got pot.paid + pot.rake ≡ pot.gross
  pub due : all_due pot.paid ≡ all_got pot.paid

-- so of each pot, and where there is a pot the rakes of all are together the stated rake
pub record PotsAddUp (settlement : Settlement) : Type 0 where
  pub each : All IsPaidOut settlement.pots
  pub rakes : 0 < length settlement.pots → sum_by (λ pot. pot.rake) settlement.pots ≡ settlement.rake
