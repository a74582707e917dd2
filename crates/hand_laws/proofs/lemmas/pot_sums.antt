-- The pots of a hand add up: `law_pots_add_up`.
pub mod PaymentSums
pub mod Rakes
pub mod OpenPots
pub mod PotDues
pub mod AddedPots
