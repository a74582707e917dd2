-- For `owes` and whose turn it is.
pub mod SeatWalk
