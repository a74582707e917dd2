pub mod SheetFacts
pub mod RecordText
pub mod EveryHand
pub mod CallerLemmas
