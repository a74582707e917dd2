pub mod LineFacts
pub mod TextFacts
pub mod PlaceFacts
pub mod LawFacts
pub mod Digits
pub mod CallerLemmas
