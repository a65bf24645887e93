pub mod Purposes
pub mod Rows
pub mod Prices
pub mod PriceTables
