-- Lists of seats, sets of seats and sums over them, and lists in ten places: shared by several laws.
pub mod SeatSets
pub mod SeatLists
pub mod FilteredSeats
pub mod TenPlaces
