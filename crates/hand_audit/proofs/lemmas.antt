-- Lemmas, in a folder for each topic that they serve.
pub mod seats
pub mod lines
pub mod first_pass
pub mod chips
pub mod splits
pub mod won_pots
pub mod tables
pub mod all_ins
pub mod later_streets
pub mod marks
