pub mod Lengths
pub mod Named
pub mod Plain
pub mod Due
pub mod Desk
pub mod Store
pub mod Obeyed
