mod SortedLaws
mod FlightLaws
mod SoughtLaws
mod TriedLaws
pub mod StartLaws
mod JoinLaws
mod OnwardLaws
mod UnitLaws
mod MadeLaws
mod GroupLaws
mod StandLaws
