-- What each seat had and put in: `HandRead::chips`; and who collected.
pub mod SummaryEvents
pub mod Collected
pub mod SumOfPaid
pub mod ListOfPaid
pub mod TableChips
