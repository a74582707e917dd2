-- An event that may stand, and the table after it: for `step`.
pub mod NextTable
pub mod RemarkSteps
pub mod UnmovedCards
pub mod PassedTests
