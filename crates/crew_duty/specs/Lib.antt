pub mod Faults
pub mod Users
pub mod Board
