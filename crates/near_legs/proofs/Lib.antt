pub mod AfterLaws
pub mod RunLaws
pub mod ListsLaws
pub mod ChoiceLaws
pub mod OwnLaws
pub mod WalkLaws
