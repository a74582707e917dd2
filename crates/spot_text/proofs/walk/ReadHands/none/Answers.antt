use Rattle.std.proofs.Common.{◌∙◌, ap, refl, replicate}
use Rattle.spot_text.proofs.HandsByPart.{spread_none}
use Rattle.spot_text.proofs.walk.ReadHands.none.Goals as goal

pub returns : goal.returns
returns c game = record { count = refl; sets = ap (replicate 10) c.empty.ensures ∙ spread_none 10; fit = refl }
