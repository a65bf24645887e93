pub mod Flights
pub mod Sought
pub mod Start
pub mod Tried
pub mod Onward
pub mod Units
pub mod Left
