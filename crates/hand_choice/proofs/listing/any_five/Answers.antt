use Rattle.std.proofs.Common.{ap, ◌∙◌, arith, length}
use Rattle.card_sets.specs.Rising.{IsCardSet-rising}
use Rattle.hand_choice.proofs.PlainChoices.{few_fives, choices-alone}
use Rattle.hand_choice.proofs.listing.any_five.Goals as goal

pub push_choices-requires-clause-above : goal.push_choices-requires-clause-above
push_choices-requires-clause-above c = λ set. rw c.empty-2.ensures (IsCardSet-rising c.args.cards set)

pub push_choices-requires-clause-room : goal.push_choices-requires-clause-room
push_choices-requires-clause-room c = omega (arith, ap length c.new-list.ensures, few_fives c.args.cards c.requires)

pub returns : goal.returns
returns c = c.of.ensures ∙ c.push_choices.ensures ∙ rw (c.new-list.ensures, c.empty.ensures, c.empty-2.ensures) (choices-alone 5 c.args.cards c.rising.ensures.set)
