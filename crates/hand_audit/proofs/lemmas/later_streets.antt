-- The streets after an all-in point: `law_later_streets_know_no_less`.
pub mod LaterOrder
pub mod LaterStates
pub mod LaterTables
