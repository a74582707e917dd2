-- What the proofs of other crates cite of this one. They cite nothing else of its proofs.

-- How many cards are left, and what is to come, where each hand has two.
pub use Rattle.range_lines.proofs.CardsLeft.{AreTwos, of_twos, slots_twos}
-- Hands that are taken, with one more, and what is known of them.
pub use Rattle.range_lines.proofs.TakenHands.{and_true, disjoint_push, hand_at, hands_push, hands_twos, known_apart, known_fit, light_all, light_three, none_apart, nones_empty, taken_disjoint, taken_light, taken_weight, weight_push}
-- A walk over the ranges of a sound spot: one hand more, and a whole choice.
pub use Rattle.range_lines.proofs.RangeWalks.{board_small, choice_enough, choice_runouts, equal_runouts, few_first, most_few, most_fits, most_none, ranges_few, refused, runouts_some, split_first, walk_few, walk_step}
-- There are few choices.
pub use Rattle.range_lines.proofs.SmallTallies.{choices_few}
