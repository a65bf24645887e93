pub mod FirstMoment
pub mod MaintenanceLemmas
pub mod GroupLemmas
pub mod CapLemmas
pub mod LegLemmas
pub mod CrewGroupLemmas
