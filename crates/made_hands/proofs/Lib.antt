pub mod DifferentCards
pub mod DrawnNumbers
pub mod TextPieces
pub mod NumberedHands
pub mod TextLength
