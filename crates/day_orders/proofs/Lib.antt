pub mod LastLemmas
mod ChangeLemmas
mod TouchLemmas
pub mod KeptLemmas
mod SlotLemmas
