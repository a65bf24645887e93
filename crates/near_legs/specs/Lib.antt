pub mod LegTables
pub mod Choices
pub mod Walk
