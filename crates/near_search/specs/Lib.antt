pub use Rattle.near_moves.specs.Descent
pub use Rattle.plan_moves.specs.Fits
pub mod Finders
pub mod Noted
pub mod Out
pub mod Passed
pub mod Given
pub mod Rotations
