-- The players who may win the pots of a settlement.
use Rattle.std.specs.Prelude.{ℕ, List, map}
use Rattle.hand_verdict.specs.declared.settlement.PotLine.{PotLine}

abbrev pub eligible_of : List PotLine → List ℕ
eligible_of lines = map (λ line. line.eligible) lines
