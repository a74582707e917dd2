-- What the proofs of other crates cite of this one. They cite nothing else of its proofs.

-- Cards in lists, and choices of one card and of two.
pub use Rattle.runout_walk.proofs.CardLists.{none_there, union-none, choose-one, one_length, two-first, two-first-length, grows}
-- Lists by their places.
pub use Rattle.runout_walk.proofs.ListPlaces.{written, get-other, get-here, map_take}
-- Members of listings.
pub use Rattle.runout_walk.proofs.ListingMembers.{member-map, length-range, in_take, in_range, some_member, member_at, taken_none, count_map, count_same}
-- Ranges of listings.
pub use Rattle.runout_walk.proofs.ListingRanges.{range-none, range-append, range-map, range-empty, map-map}
-- Counts that grow by some runouts after others, and their room.
pub use Rattle.runout_walk.proofs.GrowingCounts.{grow_more, room_less, room_left}
-- One runout more at the place of the sets that win.
pub use Rattle.runout_walk.proofs.OneRunoutMore.{place_is, IsAdded, one_added, IsCounted}
-- The best of some hands by numbers, and who wins where numbers keep the order of values.
pub use Rattle.runout_walk.proofs.BestHands.{value-same, filter-same, set-same, not_less_max, at_most, AreOrdered, ordered_outcome}
