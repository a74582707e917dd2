-- Chips are kept: `law_chips_are_kept`. Whoever put in chips is a player, and sums over the seats.
pub mod SeatSums
pub mod Collected
pub mod AllPutIn
pub mod WholePass
pub mod KeptChips
