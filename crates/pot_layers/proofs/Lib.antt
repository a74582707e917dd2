pub mod CallerLemmas
pub mod RivalSums
pub mod LevelWalk
pub mod WinnerWalk
pub mod WholeSides
pub mod EligiblePlayers
pub mod SeatOrders
