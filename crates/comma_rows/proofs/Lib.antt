pub mod ColumnLemmas
pub mod ReaderLemmas
pub mod RowLemmas
