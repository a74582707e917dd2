pub mod CallerLemmas
pub mod TruthLemmas
pub mod SetLemmas
pub mod PartLemmas
pub mod ChoiceLemmas
pub mod BracketLemmas
pub mod GameLemmas
