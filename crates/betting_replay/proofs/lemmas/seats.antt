-- Lists by seat, sets of seats, and loops over the seats.
pub mod ChangedFronts
pub mod SeatCounts
pub mod SeatLists
pub mod SeatStates
