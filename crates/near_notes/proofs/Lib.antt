mod RowLaws
pub mod PlaceLaws
pub mod NotesLaws
pub mod OutLaws
pub mod LinkLaws
pub mod StillLaws
pub mod OutsetLaws
pub mod ClearLaws
pub mod KnownLaws
