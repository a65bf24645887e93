pub use Rattle.desk_data.specs.Valid
pub mod Walks
pub mod Summing
