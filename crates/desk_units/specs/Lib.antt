pub mod NameFields
pub mod Padded
pub mod Ranks
