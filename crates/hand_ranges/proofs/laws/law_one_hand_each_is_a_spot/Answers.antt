use Rattle.range_lines.specs.Choices.{full_cell, full_units}
use Rattle.hand_ranges.proofs.GivenOut.{over_one}
use Rattle.hand_ranges.proofs.laws.law_one_hand_each_is_a_spot.Goals as goal

pub returns : goal.returns
returns c = λ board dead choice d one hand. record {
  wins = over_one choice (λ some. (full_cell board dead hand some).win) d one;
  ties = over_one choice (λ some. (full_cell board dead hand some).tie) d one;
  losses = over_one choice (λ some. (full_cell board dead hand some).lose) d one;
  given = over_one choice (full_units board dead hand) d one;
}
