-- What games and streets say of a hand: for the laws on boards and on cards.
pub mod EndedHands
pub mod GameFamilies
