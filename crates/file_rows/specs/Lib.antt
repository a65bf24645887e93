pub mod Bytes
pub mod Limits
pub mod Causes
pub mod Seen
pub mod Facts
pub mod Moments
