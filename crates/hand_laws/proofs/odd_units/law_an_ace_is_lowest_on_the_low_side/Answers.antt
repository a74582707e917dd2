use Rattle.std.proofs.Common.{refl, arith}
use Rattle.hand_laws.proofs.odd_units.law_an_ace_is_lowest_on_the_low_side.Goals as goal

pub returns : goal.returns
returns c = record {
  ace_low = λ card few is. omega (arith, few, is);
  others = λ card low. omega (arith, low);
  high = λ card. refl;
}
