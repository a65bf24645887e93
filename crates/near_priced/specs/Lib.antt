pub mod Unpaid
pub mod Payers
pub mod Priced
pub mod Saved
pub mod Tables
pub mod Ends
pub mod Balances
