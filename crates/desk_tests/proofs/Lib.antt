pub mod Going
pub mod WalkLaws
pub mod Room
