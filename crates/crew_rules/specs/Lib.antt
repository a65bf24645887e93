pub mod Crews
pub mod Broken
pub mod Words
pub mod Valid
