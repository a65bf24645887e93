pub mod LineLemmas
pub mod PartsLaws
pub mod WritableLaws
mod DrawLaws
mod NumberLaws
mod SeatLaws
mod LineLaws
