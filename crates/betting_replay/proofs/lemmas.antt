-- Lemmas, in a folder for the laws that they serve.
pub mod seats
pub mod steps
pub mod chips
pub mod turns
pub mod streets
pub mod points
pub mod places
pub mod boards
pub mod known
