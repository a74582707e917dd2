-- The first pass over the lines, by which it is known who plays.
pub mod PassSteps
pub mod SeatDigits
