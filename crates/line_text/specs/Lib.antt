pub mod Lines
pub mod Places
pub mod Laws
pub mod Amounts
pub mod Capped
