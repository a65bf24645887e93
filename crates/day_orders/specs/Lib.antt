pub mod LastOrders
pub mod KeptLists
pub mod Slots
