pub mod Arguments
pub mod Commands
pub mod Read
pub mod Asked
pub mod Shown
pub mod Explained
pub mod Kept
