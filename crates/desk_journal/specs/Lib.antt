pub mod Facts
pub mod Tokens
pub mod Steps
pub mod Journal
pub mod Spelling
pub mod Reading
pub mod Payloads
pub mod Store
