pub mod Keys
pub mod Found
pub mod Names
pub mod Pairs
pub mod Departures
pub mod Facts
pub mod Batches
pub mod Fitting
