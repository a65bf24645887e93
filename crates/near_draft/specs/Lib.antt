pub use Rattle.desk_model.specs.Push
pub use Rattle.near_moves.specs.RowRules
pub mod Bases
pub mod Drafts
pub mod Hours
pub mod Legs
pub mod Kept
pub mod LegRules
