pub mod lemmas
pub mod CallerLemmas
