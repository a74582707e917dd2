pub mod GivenBytes
pub mod Repeats
pub mod Written
