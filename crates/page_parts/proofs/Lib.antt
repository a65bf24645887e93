pub mod TextLaws
pub mod RowLaws
pub mod GroupLaws
pub mod TermLaws
