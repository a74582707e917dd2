-- Pots of which it is known who wins: final cards fill hand and board, and somebody wins.
pub mod SomebodyWins
pub mod DecidedPots
