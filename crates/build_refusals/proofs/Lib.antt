pub mod FirstLemmas
pub mod BeforeLemmas
pub mod GroupLemmas
pub mod OrderLemmas
mod NoneLemmas
mod OrderPasses
mod PassLemmas
mod TariffLemmas
mod FitLemmas
