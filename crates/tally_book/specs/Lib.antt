pub use Rattle.job_blocks.specs.Blocks
pub mod Parts
pub mod Pages
