pub mod Generator
pub mod Deals
pub mod Lines
pub mod Made
