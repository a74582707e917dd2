pub mod CauseNames
pub mod SeatSums
