pub mod Legs
pub mod Day
pub mod Batches
pub mod Join
pub mod FaultText
pub use Rattle.build_tables.specs.Facts
pub use Rattle.build_refusals.specs.Refusals
