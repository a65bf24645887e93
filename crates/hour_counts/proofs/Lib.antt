pub mod SlotLaws
pub mod TableLaws
pub mod CountLaws
mod AgreeLaws
mod RuledOutLaws
mod DepartLaws
mod LeftLaws
mod SortedLaws
pub mod FlownLaws
pub mod PlacedLaws
