-- The lemmas of this crate that proofs of other crates may cite.

-- A hand that is accepted: none of its lines departs. After lines of which none does names are of seats, sums are right and events
-- are accepted; and they end with a total.
pub use Rattle.hand_audit.proofs.lemmas.lines.AcceptedHand.{accepted_is}
pub use Rattle.hand_audit.proofs.lemmas.lines.AcceptedLines.{Sound, fits_of, has_total, no_bet, no_fault, sound_all, sound_more, start}
pub use Rattle.hand_audit.proofs.lemmas.lines.KeptInvariant.{button_few}
-- What a player put in by the table, and that who collects has a seat.
pub use Rattle.hand_audit.proofs.lemmas.chips.SummaryEvents.{paid_is}
pub use Rattle.hand_audit.proofs.lemmas.chips.Collected.{AreSeats}
-- Lists and sets of seats, and lists in ten places.
pub use Rattle.hand_audit.proofs.lemmas.seats.FilteredSeats.{among_filter}
pub use Rattle.hand_audit.proofs.lemmas.seats.SeatLists.{range_from}
pub use Rattle.hand_audit.proofs.lemmas.seats.SeatSets.{among_seats, few_seats, of_seats}
pub use Rattle.hand_audit.proofs.lemmas.seats.TenPlaces.{in_map, in_ten}
-- Whose full hand is better, who wins by it, and that somebody wins where it is known who does.
pub use Rattle.hand_audit.proofs.lemmas.splits.HandNumbers.{KeepsOrder, full_from, ranked}
pub use Rattle.hand_audit.proofs.lemmas.splits.Winners.{checked_alone, no_seats, same_all}
pub use Rattle.hand_audit.proofs.lemmas.won_pots.DecidedPots.{decided}
pub use Rattle.hand_audit.proofs.lemmas.won_pots.SomebodyWins.{some_win}
-- Orders of odd units list the winners, each once; of fives the best count no lower than those of a part of them.
pub use Rattle.hand_audit.proofs.lemmas.splits.OddOrder.{ordered}
pub use Rattle.hand_audit.proofs.lemmas.splits.MarkOrder.{marked_ordered}
pub use Rattle.hand_audit.proofs.lemmas.marks.FiveNumbers.{best_below}
-- What a seat gets by the shares of parts, and what a player who alone may win a pot gets.
pub use Rattle.hand_audit.proofs.lemmas.splits.PartDues.{AddsUp, gets, gets_of, lone_parts, of_sides, of_units, parts_get, pick}
-- The shares of a part that nobody or one player wins, and the pots of a settlement.
pub use Rattle.hand_audit.proofs.lemmas.splits.PartShares.{order_alone, order_nobody, some_alone}
pub use Rattle.hand_audit.proofs.lemmas.splits.SettledPots.{each_of_fits}
pub use Rattle.hand_audit.proofs.lemmas.tables.SettlementPots.{paid_shown, settled_same}
-- A hand has at most ten pots.
pub use Rattle.hand_audit.proofs.lemmas.tables.FewPots.{few_pots}
-- What a table of known cards is made of and knows, and which of its hands may win a pot.
pub use Rattle.hand_audit.proofs.lemmas.all_ins.KnownCards.{IsMade, known_is, known_made, made_at, made_of, some_is}
pub use Rattle.hand_audit.proofs.lemmas.tables.EligibleHands.{places_small}
-- The later streets come in order.
pub use Rattle.hand_audit.proofs.lemmas.later_streets.LaterOrder.{in_order}
