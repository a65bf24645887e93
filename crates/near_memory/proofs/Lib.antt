pub mod SameRows
pub mod RouteLegs
pub mod Rebooked
