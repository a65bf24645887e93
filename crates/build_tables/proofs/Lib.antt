pub mod PlaceLemmas
pub mod BatchLemmas
pub mod PairLemmas
pub mod RowLemmas
