pub mod CallerLemmas
pub mod PushedChoices
pub mod PlainChoices
pub mod FiveSets
