mod SeatLemmas
mod ShortLemmas
pub mod StepLemmas
mod TextLemmas
pub mod Readers
pub mod Moves
pub mod Loops
pub mod Read
pub mod FitLaws
pub mod NextLaws
pub mod PayloadLaws
pub mod EnteredLaws
pub mod StoreLaws
