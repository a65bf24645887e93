pub mod NameLaws
mod KeyLemmas
mod NameLemmas
mod AllOf
mod AllAfter
mod RowLemmas
mod EventLemmas
pub mod LegLemmas
pub mod CrewLemmas
pub mod Chains
pub mod StatementLemmas
pub mod LineLemmas
pub mod PathLemmas
pub mod PartyLemmas
pub mod PlanLemmas
pub mod SolutionLemmas
pub mod WholeLemmas
