-- The order in which odd units are given: `law_odd_units_go_in_order`.
pub mod OddUnits
