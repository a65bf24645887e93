pub mod Before
pub mod Order
pub mod Last
pub mod AfterLeg
pub mod Connection
pub mod Made
