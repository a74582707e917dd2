-- What the proofs of other crates cite of this one. They cite nothing else of its proofs.

-- Where a choice stands among the choices, and which one stands after it.
pub use Rattle.runout_ranges.proofs.NextChoice.{choose_within, choose_length}
-- Sets of cards as lists: what is left of one, a place in one, and two joined.
pub use Rattle.runout_ranges.proofs.CardLists.{minus_left}
-- The first way to fill slots, and the way after one.
pub use Rattle.runout_ranges.proofs.FilledSlots.{first_part, left_length, other_left}
-- One slot of a shape, then the slots after it.
pub use Rattle.runout_ranges.proofs.SlotSteps.{as_many}
-- Binomials, and how long the listing is.
pub use Rattle.runout_ranges.proofs.ListingLength.{binomial_none, binomial_some, binomial_small, length_choose, rising_left, length_runouts, ways_some}
-- Which lists of sets are runouts, and that none is listed twice.
pub use Rattle.runout_ranges.proofs.Membership.{choose_has, runout_fills}
-- The members of listings by their places.
pub use Rattle.runout_ranges.proofs.ListedMembers.{nothing, enough_for, at_first, member_at}
