pub mod Pages
pub mod Versions
