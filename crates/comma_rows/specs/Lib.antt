pub mod Records
pub mod Readers
pub use Rattle.desk_text.specs.Rows
