mod AsOrderedLaws
pub mod BatchLaws
mod BegunLemmas
mod BookedLemmas
pub mod BoundLaws
mod CountLaws
pub mod DepartureLaws
mod GoneLists
mod HighestLaws
mod KeepsLemmas
pub mod LeavingLaws
mod LeftLemmas
mod OrderedLaws
mod PassengerLaws
pub mod PathOrder
mod ProgressLaws
mod RoomLemmas
pub mod SaidLemmas
pub mod ScheduleLemmas
mod TallyLaws
mod TallySteps
mod WholeLemmas
