use Rattle.text_laws.proofs.NamedHands.{lightest_range, heaviest_range, no_weight_range, too_heavy_range, together_range, above_range, one_card_range}
use Rattle.text_laws.proofs.items.law_ranges_are_bounded.Goals as goal

pub returns-clause-lightest : goal.returns-clause-lightest
returns-clause-lightest c = lightest_range

pub returns-clause-heaviest : goal.returns-clause-heaviest
returns-clause-heaviest c = heaviest_range

pub returns-clause-no_weight : goal.returns-clause-no_weight
returns-clause-no_weight c = no_weight_range

pub returns-clause-too_heavy : goal.returns-clause-too_heavy
returns-clause-too_heavy c = too_heavy_range

pub returns-clause-together : goal.returns-clause-together
returns-clause-together c = together_range

pub returns-clause-above : goal.returns-clause-above
returns-clause-above c = above_range

pub returns-clause-one_card : goal.returns-clause-one_card
returns-clause-one_card c = one_card_range
