pub mod Ends
pub mod Memory
pub mod MemoryLaws
pub mod Repeat
pub mod Standard
