pub mod PriceLaws
mod DecidingRow
mod KeyLemmas
mod OwedLemmas
mod RateLemmas
mod StepLemmas
