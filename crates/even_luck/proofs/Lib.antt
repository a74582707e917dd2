pub mod SumsBelow
pub mod TallyFacts
pub mod CountedFacts
pub mod EvenFacts
pub mod CallerLemmas
