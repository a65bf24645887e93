pub mod BatchLaws
pub mod SeenLaws
pub mod HistoryTexts
