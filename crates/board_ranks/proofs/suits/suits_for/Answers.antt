use Rattle.std.proofs.Common.{arith}
use Rattle.board_ranks.proofs.suits.suits_for.Goals as goal

pub returns : goal.returns
returns c = (
  λ a b suit la lb at big s ls.
      let short = c.five_suits.ensures.suits a b suit la lb at big s ls in
      omega (arith, short, c.most_with-together.ensures.value s ls),
  c.five_suits.ensures.length,
)
