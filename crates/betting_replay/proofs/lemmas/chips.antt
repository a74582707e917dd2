-- Accepted events keep a seat's chips; and for the chips that a step moves.
pub mod AffordedChips
pub mod ChipsStay
pub mod ClearedChips
pub mod ReturnedChips
