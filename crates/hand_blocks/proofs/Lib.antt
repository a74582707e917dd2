pub mod AloneFacts
pub mod SpotFacts
pub mod EquityFacts
pub mod StreetFacts
pub mod ResultFacts
