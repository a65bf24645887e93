pub mod SetLaws
pub mod NeighbourLaws
pub mod ReplaceLaws
pub mod ListLaws
