-- The card by which a stud player gets odd units.
pub mod FiveNumbers
