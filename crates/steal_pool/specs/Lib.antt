pub use Rattle.tally_book.specs.Pages
pub use Rattle.tally_book.specs.Parts
pub use Rattle.job_blocks.specs.Blocks
pub use Rattle.worker_seats.specs.Claims
pub use Rattle.worker_seats.specs.Lanes
pub use Rattle.worker_seats.specs.Sittings
