-- What the proofs of other crates cite of this one. They cite nothing else of its proofs.

-- Choices with the next card, and then those without it.
pub use Rattle.hand_choice.proofs.PushedChoices.{nothing}
-- The fives that a game allows are sets of five cards.
pub use Rattle.hand_choice.proofs.FiveSets.{allowed-AreFives, filter-AreFives}
