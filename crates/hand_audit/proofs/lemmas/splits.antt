-- Pots are split by the rules.
pub mod HandNumbers
pub mod Winners
pub mod OddOrder
pub mod MarkOrder
pub mod PartShares
pub mod PartDues
pub mod PaymentWalk
pub mod ShownHand
pub mod SettledPots
pub mod PotsBehind
pub mod SideShares
pub mod SplitHands
