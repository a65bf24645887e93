pub mod Escaped
pub mod Parts
pub mod Money
pub mod Legs
pub mod Groups
pub mod Amounts
